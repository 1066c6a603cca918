-- The texts of numbers and rows, part by part.
use Rattle.std.proofs.Common.{◌≡◌, ℕ, zero, suc, ◌+◌, ◌<◌, List, [], ◌∷◌, ◌++◌, length, get_or, take, ℤ, pos, negsuc, nat_abs, ◌≤ℤ◌, decimal, sym, refl, ap, ◌∙◌, subst, append_assoc, add-one, arith}
use Rattle.std.specs.Fmt.{signed_decimal}
use Rattle.std.proofs.lemmas.List.{append-nil}
use Rattle.std.proofs.lemmas.Int.{ints}
use Rattle.relation.specs.declared.kinds.Kind.{Kind}
use Rattle.relation.specs.declared.kinds.Kind.TheVariants.{Number}
use Rattle.relation.specs.Stored.{firsts}
use Rattle.listing.specs.Text.{sign, space, value_text, values_text}

-- a text that is taken is taken as each that is equal to it
pub taken_as : {S : Type 0} (takes : S → List ℕ → S → Type 0) {p q : S} {s t : List ℕ} → takes p s q → s ≡ t → takes p t q
taken_as takes {p} {q} h e = subst (λ l. takes p l q) e h

pub signed_parts : (z : ℤ) → sign z ++ decimal (nat_abs z) ≡ signed_decimal z
signed_parts (pos n) = refl
signed_parts (negsuc n) = refl

pub get_d_firsts : {X : Type 0} (n : ℕ) (xs : List X) (d : X) (c : ℕ) → c < n → get_or (firsts n xs d) c d ≡ get_or xs c d
get_d_firsts zero xs d c h = absurd (omega arith)
get_d_firsts (suc n) [] d zero h = refl
get_d_firsts (suc n) (x ∷ xs) d zero h = refl
get_d_firsts (suc n) [] d (suc c) h = get_d_firsts n [] d c (omega arith)
get_d_firsts (suc n) (x ∷ xs) d (suc c) h = get_d_firsts n xs d c (omega arith)

values_suc : (ks : List Kind) (zs : List ℤ) (c : ℕ) → c < length ks → c < length zs → values_text (take c ks) (take c zs) ++ (space ∷ value_text (get_or ks c Number) (get_or zs c (pos 0))) ≡ values_text (take (suc c) ks) (take (suc c) zs)
values_suc [] zs c h g = absurd (omega arith)
values_suc (k ∷ ks) [] c h g = absurd (omega arith)
values_suc (k ∷ ks) (z ∷ zs) zero h g = sym (append-nil (space ∷ value_text k z))
values_suc (k ∷ ks) (z ∷ zs) (suc c) h g =
    append_assoc (space ∷ value_text k z) (values_text (take c ks) (take c zs)) _ ∙ ap (λ t. (space ∷ value_text k z) ++ t) (values_suc ks zs c (omega arith) (omega arith))

-- one column more
pub values_more : (ks : List Kind) (zs : List ℤ) (c : ℕ) → c < length ks → c < length zs → values_text (take c ks) (take c zs) ++ (space ∷ value_text (get_or ks c Number) (get_or zs c (pos 0))) ≡ values_text (take (c + 1) ks) (take (c + 1) zs)
values_more ks zs c h g = rw add-one (values_suc ks zs c h g)

pub no_sign : (z : ℤ) → pos 0 ≤ℤ z → [] ≡ sign z
no_sign (pos n) h = refl
no_sign (negsuc n) h = absurd (grind (arith, ints))
