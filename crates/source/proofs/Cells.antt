-- Lemmas on the elements of a list that are asked for by number, and on rows that fit their kinds.
use Rattle.std.specs.List.{slice_get, list_all, zip}
use Rattle.std.proofs.lemmas.Option.{slice_get-get_or, slice_get_past}
use Rattle.std.proofs.Common.{◌≡◌, ℕ, zero, suc, ◌+◌, ◌-◌, ◌<◌, ◌≤◌, Bool, true, false, cond, ◌&&◌, List, [], ◌∷◌, length, get_or, ℤ, pos, Some, None, ◌⊎◌, inl, inr, Option, sym, refl, ap, ◌∙◌, ⊎_elim, add-one, arith}
use Rattle.std.proofs.lemmas.Bool.{cases_lt, and_parts}
use Rattle.relation.specs.declared.kinds.Kind.{Kind}
use Rattle.relation.specs.Stored.{firsts, stored}
use Rattle.relation.specs.Values.{in_kind}
use Rattle.relation.specs.Rows.{SpecRow}
use Rattle.relation.proofs.Firsts.{length_firsts}
use Rattle.relation.specs.declared.rows.Row.{Row}
use Rattle.relation.specs.Bounds.{most_columns}
use Rattle.source.specs.Meaning.{cell, fits, row?, value?}

pub nth_firsts : {X : Type 0} (n : ℕ) (xs : List X) (d : X) (i : ℕ) → i < n → slice_get (firsts n xs d) i ≡ Some (get_or xs i d)
nth_firsts zero xs d i h = absurd (omega arith)
nth_firsts (suc n) [] d zero h = refl
nth_firsts (suc n) [] d (suc i) h = nth_firsts n [] d i (omega arith)
nth_firsts (suc n) (x ∷ xs) d zero h = refl
nth_firsts (suc n) (x ∷ xs) d (suc i) h = nth_firsts n xs d i (omega arith)

-- the column c, which counts from 1
pub cell_firsts : {X : Type 0} (n : ℕ) (xs : List X) (d : X) (c : ℕ) → 1 ≤ c → c ≤ n → cell (firsts n xs d) c ≡ Some (get_or xs (c - 1) d)
cell_firsts n xs d zero h k = absurd (omega arith)
cell_firsts n xs d (suc c) h k = nth_firsts n xs d c (omega arith) ∙ ap (λ i. Some (get_or xs i d)) (omega arith)

pub cell_beyond : {X : Type 0} (n : ℕ) (xs : List X) (d : X) (c : ℕ) → (1 ≤ c → c ≤ n → ⊥) → cell (firsts n xs d) c ≡ None
cell_beyond n xs d zero h = refl
cell_beyond n xs d (suc c) h =
    ⊎_elim (λ lt. absurd (h (omega arith) (omega arith)))
    (λ le. slice_get_past (firsts n xs d) c (omega (arith, length_firsts n xs d))) (cases_lt c n)

-- the padding does not show within the list
cell_padded : (n : ℕ) (xs : List ℤ) (c : ℕ) → 1 ≤ c → c ≤ length xs → c ≤ n → Some (get_or (firsts n xs (pos 0)) (c - 1) (pos 0)) ≡ cell xs c
cell_padded n xs zero o h k = absurd (omega arith)
cell_padded n xs (suc c) o h k =
    let back : suc c - 1 ≡ c = omega arith in
    ap (λ i. Some (get_or (firsts n xs (pos 0)) i (pos 0))) back
    ∙ sym (slice_get-get_or (firsts n xs (pos 0)) c (pos 0) (omega (arith, length_firsts n xs (pos 0))))
    ∙ nth_firsts n xs (pos 0) c (omega arith)
    ∙ sym (slice_get-get_or xs c (pos 0) (omega arith))

pub cell_at : {X : Type 0} (xs : List X) (i : ℕ) (d : X) → i < length xs → cell xs (i + 1) ≡ Some (get_or xs i d)
cell_at xs i d h = rw add-one (slice_get-get_or xs i d h)

-- each value beside its kind
pub zip_fits : (ks : List Kind) (zs : List ℤ) → length ks ≤ length zs → list_all (λ p. in_kind p.0 p.1) (zip ks zs) ≡ fits ks (firsts (length ks) zs (pos 0))
zip_fits [] zs h = refl
zip_fits (k ∷ ks) [] h = absurd (omega arith)
zip_fits (k ∷ ks) (z ∷ zs) h = ap (λ t. in_kind k z && t) (zip_fits ks zs (omega arith))

-- a tuple that fits has as many values as there are kinds
pub fits_length : (ks : List Kind) (zs : List ℤ) → fits ks zs ≡ true → length zs ≡ length ks
fits_length [] [] h = refl
fits_length [] (z ∷ zs) h = let z : ◌≡◌ {A = ℕ} 0 1 = cc in absurd (omega arith)
fits_length (k ∷ ks) [] h = let z : ◌≡◌ {A = ℕ} 0 1 = cc in absurd (omega arith)
fits_length (k ∷ ks) (z ∷ zs) h = ap suc (fits_length ks zs (and_parts (in_kind k z) (fits ks zs) h).1)

-- the value of column c of the row at a place
pub value_stored : (o : Option SpecRow) (ks : List Kind) (c : ℕ) (w : Row) → length ks ≤ most_columns → ((r : SpecRow) → o ≡ Some r → fits ks r.tuple ≡ true) → row? o ≡ Some w → 1 ≤ c → c ≤ length ks → Some (get_or w.values (c - 1) (pos 0)) ≡ value? o c
value_stored None ks c w few s e p q = let z : ◌≡◌ {A = ℕ} 0 1 = cc in absurd (omega arith)
value_stored (Some r) ks c w few s e p q =
    let same : stored r ≡ w = cc in
    let long = fits_length ks r.tuple (s r refl) in
    ap (λ v. Some (get_or v.values (c - 1) (pos 0))) (sym same)
    ∙ cell_padded most_columns r.tuple c p (omega (arith, long)) (omega (arith, few))

-- no value past the last column
pub value_beyond : (o : Option SpecRow) (ks : List Kind) (c : ℕ) → ((r : SpecRow) → o ≡ Some r → fits ks r.tuple ≡ true) → (1 ≤ c → c ≤ length ks → ⊥) → None ≡ value? o c
value_beyond None ks c s h = refl
value_beyond (Some r) ks zero s h = refl
value_beyond (Some r) ks (suc c) s h = sym (slice_get_past r.tuple c (past (fits_length ks r.tuple (s r refl)) (cases_lt c (length ks))))
  where
    past : length r.tuple ≡ length ks → (c < length ks) ⊎ (length ks ≤ c) → length r.tuple ≤ c
    past e (inl lt) = absurd (h (omega arith) (omega arith))
    past e (inr le) = omega arith

-- a test that let something through
pub cond_some : {X : Type 0} (b : Bool) (o : Option X) (w : X) → cond b o None ≡ Some w → (b ≡ true) × (o ≡ Some w)
cond_some true o w h = (refl, h)
cond_some false o w h = let z : ◌≡◌ {A = ℕ} 0 1 = cc in absurd (omega arith)
