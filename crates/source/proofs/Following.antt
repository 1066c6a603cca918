-- The rows from a place on, as a walk from filled place to filled place meets them.
use Rattle.std.proofs.Common.{◌≡◌, ℕ, zero, suc, ◌+◌, ◌-◌, ◌<◌, ◌≤◌, List, [], ◌∷◌, ◌++◌, map, length, length-append, Some, None, Option, sym, refl, ap, ◌∙◌, ⊎_elim, arith}
use Rattle.std.proofs.lemmas.Bool.{cases_lt}
use Rattle.relation.specs.declared.rows.Row.{Row}
use Rattle.relation.specs.Rows.{SpecRow}
use Rattle.source.specs.Meaning.{Meaning, NoneLed, filled?, row?, rows_below, rows_of}
use Rattle.source.specs.Filled.{rows_between, rows_from}
use Rattle.relation.specs.Stored.{stored}

-- the rows below a place are not fewer than those below an earlier one
pub rows_grow : (m : Meaning) (k n : ℕ) → k ≤ n → length (rows_below m k) ≤ length (rows_below m n)
rows_grow m k zero le = let e : k ≡ 0 = omega arith in let f = ap (λ i. length (rows_below m i)) e in omega (arith, f)
rows_grow m k (suc n) le =
    ⊎_elim
    (λ lt. omega (arith, rows_grow m k n (omega arith), length-append (rows_below m n) (filled? (m.at n))))
    (λ ge. let e : k ≡ suc n = omega arith in let f = ap (λ i. length (rows_below m i)) e in omega (arith, f))
    (cases_lt k (suc n))

pub rows_next : (m : Meaning) (k : ℕ) → k < m.count → rows_from m k ≡ filled? (m.at k) ++ rows_from m (suc k)
rows_next m k lt = let e : m.count - k ≡ suc (m.count - suc k) = omega arith in ap (rows_between m k) e

pub rows_past : (m : Meaning) (k : ℕ) → m.count ≤ k → rows_from m k ≡ []
rows_past m k le = let e : m.count - k ≡ 0 = omega arith in ap (rows_between m k) e

nothing : (o : Option SpecRow) → ((w : SpecRow) → o ≡ Some w → ⊥) → filled? o ≡ []
nothing None h = refl
nothing (Some w) h = absurd (h w refl)

skip : (m : Meaning) (k d : ℕ) → ((p : ℕ) (w : SpecRow) → k ≤ p → p < k + d → m.at p ≡ Some w → ⊥) → rows_from m (k + d) ≡ rows_from m k
skip m k zero h = let e : k + 0 ≡ k = omega arith in ap (rows_from m) e
skip m k (suc d) h =
    ⊎_elim
    (λ lt.
    let e : k + suc d ≡ suc k + d = omega arith in
    let none = nothing (m.at k) (λ w. h k w (omega arith) (omega arith)) in
    ap (rows_from m) e ∙ skip m (suc k) d (λ p w a b. h p w (omega arith) (omega arith)) ∙ sym (rows_next m k lt ∙ ap (λ xs. xs ++ rows_from m (suc k)) none))
    (λ le. rows_past m (k + suc d) (omega arith) ∙ sym (rows_past m k le))
    (cases_lt k m.count)

-- what `seek` passes over has no row
pub rows_skip : (m : Meaning) (k r : ℕ) → NoneLed m [] k r → rows_from m r ≡ rows_from m k
rows_skip m k r s =
    let e : r ≡ k + (r - k) = omega (arith, s.on) in
    ap (rows_from m) e ∙ skip m k (r - k) (λ p w a b q. s.skipped p w a (omega arith) q tt)

append_none : {X : Type 0} (xs : List X) → xs ≡ xs ++ []
append_none [] = refl
append_none (x ∷ xs) = ap (λ ys. x ∷ ys) (append_none xs)

append_back : {X : Type 0} (xs ys zs : List X) → (xs ++ ys) ++ zs ≡ xs ++ (ys ++ zs)
append_back [] ys zs = refl
append_back (x ∷ xs) ys zs = ap (λ ws. x ∷ ws) (append_back xs ys zs)

below_between : (m : Meaning) (k n : ℕ) → rows_below m (k + n) ≡ rows_below m k ++ rows_between m k n
below_between m k zero = let e : k + 0 ≡ k = omega arith in ap (rows_below m) e ∙ append_none (rows_below m k)
below_between m k (suc n) =
    let e : k + suc n ≡ suc k + n = omega arith in
    ap (rows_below m) e ∙ below_between m (suc k) n ∙ append_back (rows_below m k) (filled? (m.at k)) (rows_between m (suc k) n)

-- from the first place on, all rows
pub rows_all : (m : Meaning) → rows_from m 0 ≡ rows_of m
rows_all m =
    let all : m.count - 0 ≡ m.count = omega arith in
    let none : 0 + m.count ≡ m.count = omega arith in
    ap (rows_between m 0) all ∙ sym (below_between m 0 m.count) ∙ ap (rows_below m) none

-- what a place that was asked leaves to come
asked_some : (m : Meaning) (k : ℕ) (w : Row) → k < m.count → row? (m.at k) ≡ Some w → map stored (rows_from m k) ≡ w ∷ map stored (rows_from m (suc k))
asked_some m k w lt e = step (m.at k) refl e
  where
    step : (o : Option SpecRow) → m.at k ≡ o → row? o ≡ Some w → map stored (rows_from m k) ≡ w ∷ map stored (rows_from m (suc k))
    step None is e = let z : ◌≡◌ {A = ℕ} 0 1 = cc in absurd (omega arith)
    step (Some r) is e =
        let same : stored r ≡ w = cc in
        ap (map stored) (rows_next m k lt ∙ ap (λ o. filled? o ++ rows_from m (suc k)) is) ∙ ap (λ x. x ∷ map stored (rows_from m (suc k))) same

asked_none : (m : Meaning) (k : ℕ) → k < m.count → row? (m.at k) ≡ None → rows_from m k ≡ rows_from m (suc k)
asked_none m k lt e = step (m.at k) refl e
  where
    step : (o : Option SpecRow) → m.at k ≡ o → row? o ≡ None → rows_from m k ≡ rows_from m (suc k)
    step None is e = rows_next m k lt ∙ ap (λ o. filled? o ++ rows_from m (suc k)) is
    step (Some r) is e = let z : ◌≡◌ {A = ℕ} 0 1 = cc in absurd (omega arith)

-- what a place that was asked leaves to come, from the place that `seek` then gives on
module _ (m : Meaning) (k r : ℕ) (s : NoneLed m [] (k + 1) r) (lt : k < m.count) where
  after : map stored (rows_from m (suc k)) ≡ map stored (rows_from m r)
  after = let e : suc k ≡ k + 1 = omega arith in ap (λ j. map stored (rows_from m j)) e ∙ ap (map stored) (sym (rows_skip m (k + 1) r s))

  pub left_some : (w : Row) → row? (m.at k) ≡ Some w → map stored (rows_from m k) ≡ w ∷ map stored (rows_from m r)
  left_some w e = asked_some m k w lt e ∙ ap (λ xs. w ∷ xs) after

  pub left_none : row? (m.at k) ≡ None → map stored (rows_from m k) ≡ map stored (rows_from m r)
  left_none e = ap (map stored) (asked_none m k lt e) ∙ after
