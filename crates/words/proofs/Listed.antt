-- A word that a table of words does not have.
use Rattle.std.proofs.Common.{◌≡◌, ℕ, false, List, [], ◌∷◌, Some, None, codes, IsUtf8, Option, Result, Ok, Err, MatchResult, sym, refl, ◌∙◌, subst, inl, inr, ⊎_elim, arith}
use Rattle.std.specs.Result.{result_ok}
use lib.Utf8.{encode}
use Rattle.std.specs.Str.{bytes_eq}
use Rattle.std.proofs.lemmas.Slice.Eq.{bytes_eq-Decides}
use Rattle.std.proofs.lemmas.Bool.{cond-false, cases_Bool}
use Rattle.std.proofs.lemmas.Option.{none-some, same_Some}
use Rattle.words.specs.Name.{FindsIn, meant_by, reserved_words}

pub other_bytes : (a b : List ℕ) → (a ≡ b → ⊥) → bytes_eq a b ≡ false
other_bytes a b ne = ⊎_elim (λ t. absurd (ne ((bytes_eq-Decides a b).0 t))) (λ f. f) (cases_Bool (bytes_eq a b))

-- w is none of the words of the table
abbrev pub Unlisted : {X : Type 0} → List ℕ → List (List ℕ × X) → Type 0
Unlisted w [] = Unit {0}
Unlisted w (e ∷ es) = (w ≡ e.0 → ⊥) × Unlisted w es

pub unlisted : {X : Type 0} (w : List ℕ) (es : List (List ℕ × X)) → Unlisted w es → ◌≡◌ {A = Option X} None (meant_by w es)
unlisted w [] h = refl
unlisted w (e ∷ es) h = unlisted w es h.1 ∙ sym (cond-false (bytes_eq w e.0) _ _ (other_bytes w e.0 h.0))

-- a result that is no `Ok` is an error
pub error_of : {T E : Type 0} (P : T → Type 0) (Q : E → Type 0) (r : Result T E) → result_ok r ≡ None → MatchResult r P Q → (e : E) × Q e
error_of P Q (Ok x) n h = let z : ◌≡◌ {A = ℕ} 0 1 = cc in absurd (omega arith)
error_of P Q (Err e) n h = (e, h)

-- a result that is no error is an `Ok`
pub value_of : {T E : Type 0} (P : T → Type 0) (Q : E → Type 0) (r : Result T E) (x : T) → result_ok r ≡ Some x → MatchResult r P Q → P x
value_of P Q (Ok y) x n h = subst P (same_Some y x n) h
value_of P Q (Err e) x n h = absurd (none-some x n)

-- every word of the table is text
abbrev pub Texts : {X : Type 0} → List (List ℕ × X) → Type 0
Texts [] = Unit {0}
Texts (e ∷ es) = IsUtf8 e.0 × Texts es

pub no_text : {X : Type 0} (w : List ℕ) (es : List (List ℕ × X)) → (IsUtf8 w → ⊥) → Texts es → Unlisted w es
no_text w [] h t = tt
no_text w (e ∷ es) h t = ((λ same. h (subst IsUtf8 (sym same) t.0)), no_text w es h t.1)

-- what a table says of a word that was found in it
pub found_in : {X E : Type 0} (w : List ℕ) (es : List (List ℕ × X)) (o : Option X) → Texts es → FindsIn {T = X} {E = E} (λ t r. result_ok r ≡ meant_by t es) w o → o ≡ meant_by w es
found_in w es o t (inl f) = f.2 ∙ f.1
found_in w es o t (inr n) = n.1 ∙ unlisted w es (no_text w es n.0 t)

pub reserved_are_text : Texts reserved_words
unfolding encode
reserved_are_text = ((codes "base", (refl, refl)), ((codes "during", (refl, refl)), ((codes "where", (refl, refl)), ((codes "on", (refl, refl)), ((codes "of", (refl, refl)), ((codes "by", (refl, refl)), tt))))))
