-- What the changes at sorted cuts come to is the total over the rows that hold the day.
use Rattle.std.proofs.Common.{◌≡◌, ℕ, zero, suc, ◌+◌, ◌<◌, ◌≤◌, cond, ltb, leb, ◌⊎◌, List, [], ◌∷◌, map, length, get_or, take, drop, ℤ, pos, ◌+ℤ◌, neg_ℤ, sym, refl, ap, ◌∙◌, subst, ap₂, inl, inr, add-one, arith, take-append-drop}
use mathlib.Core.List.{map-append}
use Rattle.std.specs.List.{AllByRecursion as AllOf}
use Rattle.std.proofs.ByRecursion.{All-from_get_or}
use Rattle.std.proofs.lemmas.List.{get_or-take, get_or-drop, length-take, length-drop}
use Rattle.std.proofs.lemmas.Int.{ints}
use Rattle.std.proofs.lemmas.Bool.{cases_lt, cond-true, cond-false, and_from, and_left, and_right, le-leb, lt-leb, lt-ltb, le-ltb}
use Rattle.relation.specs.declared.rows.Row.{Row}
use Rattle.relation.specs.Rows.{holds}
use Rattle.collect.specs.Areas.{no_row, bare}
use Rattle.tallies.specs.declared.rules.Tally.{Tally}
use Rattle.cuts.specs.Amounts.{value, held, total}
use Rattle.cuts.specs.Cuts.{cut_row, opened, closed, cuts_of}
use Rattle.cuts.specs.Days.{Rises, sorted}
use Rattle.cuts.specs.Totals.{totals}
use Rattle.cuts.proofs.Lists.{map_same, total_append}
use Rattle.cuts.proofs.Sorting.{sorted_rises, total_sorted}

-- ---- at each cut

pub length_totals : (n z : ℤ) (cs : List Row) → length (totals n z cs) ≡ length cs
length_totals n z [] = refl
length_totals n z (c ∷ cs) = ap suc (length_totals (n +ℤ value 0 c) (z +ℤ value 1 c) cs)

abbrev front_total : (Row → ℤ) → ℕ → List Row → ℤ
front_total p j cs = total (map p (take j cs))

at_cut : (n z : ℤ) (cs : List Row) (j : ℕ) → j < length cs → get_or (totals n z cs) j no_row ≡ cut_row (get_or cs j no_row).first (n +ℤ front_total (value 0) (suc j) cs) (z +ℤ front_total (value 1) (suc j) cs)
at_cut n z [] j lt = absurd (omega arith)
at_cut n z (c ∷ cs) zero lt = ap₂ (cut_row c.first) (omega (arith, ints)) (omega (arith, ints))
at_cut n z (c ∷ cs) (suc j) lt =
    at_cut (n +ℤ value 0 c) (z +ℤ value 1 c) cs j (omega arith)
    ∙ ap₂ (cut_row (get_or cs j no_row).first) (omega (arith, ints)) (omega (arith, ints))

pub totals_at : (cs : List Row) (j : ℕ) → j < length cs → get_or (totals (pos 0) (pos 0) cs) j no_row ≡ cut_row (get_or cs j no_row).first (front_total (value 0) (j + 1) cs) (front_total (value 1) (j + 1) cs)
totals_at cs j lt =
    let zero_add : (x : ℤ) → pos 0 +ℤ x ≡ x = λ x. omega (arith, ints) in
    at_cut (pos 0) (pos 0) cs j lt
    ∙ ap₂ (cut_row (get_or cs j no_row).first) (zero_add (front_total (value 0) (suc j) cs)) (zero_add (front_total (value 1) (suc j) cs))
    ∙ ap (λ k. cut_row (get_or cs j no_row).first (front_total (value 0) k cs) (front_total (value 1) k cs)) (sym (add-one j))

-- ---- up to a day

abbrev upto : ℕ → (Row → ℤ) → Row → ℤ
upto d p c = cond (leb c.first d) (p c) (pos 0)

nothing : (d : ℕ) (p : Row → ℤ) (cs : List Row) → AllOf (λ c. d < c.first) cs → total (map (upto d p) cs) ≡ pos 0
nothing d p [] h = refl
nothing d p (c ∷ cs) h =
    let one : upto d p c ≡ pos 0 = cond-false (leb c.first d) (p c) (pos 0) (lt-leb c.first d h.0) in
    let rest : total (map (upto d p) cs) ≡ pos 0 = nothing d p cs h.1 in
    omega (arith, ints)

everything : (d : ℕ) (p : Row → ℤ) (cs : List Row) → AllOf (λ c. c.first ≤ d) cs → AllOf (λ c. upto d p c ≡ p c) cs
everything d p [] h = tt
everything d p (c ∷ cs) h = (cond-true (leb c.first d) (p c) (pos 0) (le-leb c.first d h.0), everything d p cs h.1)

-- where the next cut is at a later day, the cuts so far are those up to the day
front_is : (p : Row → ℤ) (cs : List Row) (j : ℕ) → Rises cs → j + 1 < length cs → (get_or cs j no_row).first < (get_or cs (j + 1) no_row).first → front_total p (j + 1) cs ≡ total (map (upto (get_or cs j no_row).first p) cs)
front_is p cs j rises lt step =
    let d = (get_or cs j no_row).first in
    let f : Row → ℤ = upto d p in
    let parts : total (map f cs) ≡ total (map f (take (j + 1) cs)) +ℤ total (map f (drop (j + 1) cs)) =
    ap (λ l. total (map f l)) (sym (take-append-drop (j + 1) cs)) ∙ ap total (map-append f (take (j + 1) cs) (drop (j + 1) cs)) ∙ total_append (map f (take (j + 1) cs)) (map f (drop (j + 1) cs)) in
    let front : total (map f (take (j + 1) cs)) ≡ front_total p (j + 1) cs = ap total (map_same f p (take (j + 1) cs) (everything d p (take (j + 1) cs) below)) in
    let none : total (map f (drop (j + 1) cs)) ≡ pos 0 = nothing d p (drop (j + 1) cs) above in
    omega (arith, ints)
  where
    below : AllOf (λ c. c.first ≤ (get_or cs j no_row).first) (take (j + 1) cs)
    below =
        All-from_get_or (λ c. c.first ≤ (get_or cs j no_row).first) (take (j + 1) cs) no_row
        (λ k l. let m : k < j + 1 = omega (arith, length-take (j + 1) cs) in
        subst (λ c. c.first ≤ (get_or cs j no_row).first) (sym (get_or-take (j + 1) cs k no_row m)) (rises k j (omega arith) (omega arith)))

    above : AllOf (λ c. (get_or cs j no_row).first < c.first) (drop (j + 1) cs)
    above =
        All-from_get_or (λ c. (get_or cs j no_row).first < c.first) (drop (j + 1) cs) no_row
        (λ k l. let m : j + 1 + k < length cs = omega (arith, length-drop (j + 1) cs) in
        subst (λ c. (get_or cs j no_row).first < c.first) (sym (get_or-drop (j + 1) cs k no_row)) (omega (arith, rises (j + 1) (j + 1 + k) (omega arith) m)))

-- ---- over the rows

-- p is what the cuts say of v
module _ (m : Tally) (p v : Row → ℤ) (opens : (w : Row) → p (opened m w) ≡ v w) (closes : (w : Row) → p (closed m w) ≡ neg_ℤ (v w)) where
  one_row : (d : ℕ) (w : Row) (hs : List Row) (rest : ℤ) → w.first < w.end → rest ≡ total (map v hs) → upto d p (opened m w) +ℤ (upto d p (closed m w) +ℤ rest) ≡ total (map v (cond (holds (bare w) d) (w ∷ hs) hs))
  one_row d w hs rest h more = step (cases_lt d w.first) (cases_lt d w.end)
    where
      step : (d < w.first) ⊎ (w.first ≤ d) → (d < w.end) ⊎ (w.end ≤ d) → upto d p (opened m w) +ℤ (upto d p (closed m w) +ℤ rest) ≡ total (map v (cond (holds (bare w) d) (w ∷ hs) hs))
      step (inl a) b =
          let x : upto d p (opened m w) ≡ pos 0 = cond-false (leb w.first d) (p (opened m w)) (pos 0) (lt-leb w.first d a) in
          let y : upto d p (closed m w) ≡ pos 0 = cond-false (leb w.end d) (p (closed m w)) (pos 0) (lt-leb w.end d (omega arith)) in
          let e : upto d p (opened m w) +ℤ (upto d p (closed m w) +ℤ rest) ≡ total (map v hs) = omega (arith, ints) in
          e ∙ ap (λ l. total (map v l)) (sym (cond-false (holds (bare w) d) (w ∷ hs) hs (and_left (leb w.first d) (ltb d w.end) (lt-leb w.first d a))))
      step (inr a) (inl b) =
          let x : upto d p (opened m w) ≡ v w = cond-true (leb w.first d) (p (opened m w)) (pos 0) (le-leb w.first d a) ∙ opens w in
          let y : upto d p (closed m w) ≡ pos 0 = cond-false (leb w.end d) (p (closed m w)) (pos 0) (lt-leb w.end d b) in
          let e : upto d p (opened m w) +ℤ (upto d p (closed m w) +ℤ rest) ≡ v w +ℤ total (map v hs) = omega (arith, ints) in
          e ∙ ap (λ l. total (map v l)) (sym (cond-true (holds (bare w) d) (w ∷ hs) hs (and_from (leb w.first d) (ltb d w.end) (le-leb w.first d a) (lt-ltb d w.end b))))
      step (inr a) (inr b) =
          let x : upto d p (opened m w) ≡ v w = cond-true (leb w.first d) (p (opened m w)) (pos 0) (le-leb w.first d a) ∙ opens w in
          let y : upto d p (closed m w) ≡ neg_ℤ (v w) = cond-true (leb w.end d) (p (closed m w)) (pos 0) (le-leb w.end d b) ∙ closes w in
          let e : upto d p (opened m w) +ℤ (upto d p (closed m w) +ℤ rest) ≡ total (map v hs) = omega (arith, ints) in
          e ∙ ap (λ l. total (map v l)) (sym (cond-false (holds (bare w) d) (w ∷ hs) hs (and_right (leb w.first d) (ltb d w.end) (le-ltb d w.end b))))

  cuts_total : (d : ℕ) (ws : List Row) → AllOf (λ w. w.first < w.end) ws → total (map (upto d p) (cuts_of m ws)) ≡ total (map v (held ws d))
  cuts_total d [] h = refl
  cuts_total d (w ∷ ws) h = one_row d w (held ws d) (total (map (upto d p) (cuts_of m ws))) h.0 (cuts_total d ws h.1)

  -- what the changes come to before a later day
  pub summed : (ws : List Row) → AllOf (λ w. w.first < w.end) ws → (j : ℕ) → j + 1 < length (sorted (cuts_of m ws)) → (get_or (sorted (cuts_of m ws)) j no_row).first < (get_or (sorted (cuts_of m ws)) (j + 1) no_row).first
      → front_total p (j + 1) (sorted (cuts_of m ws)) ≡ total (map v (held ws (get_or (sorted (cuts_of m ws)) j no_row).first))
  summed ws h j lt step =
      let d = (get_or (sorted (cuts_of m ws)) j no_row).first in
      front_is p (sorted (cuts_of m ws)) j (sorted_rises (cuts_of m ws)) lt step ∙ total_sorted (cuts_of m ws) (upto d p) ∙ cuts_total d ws h
