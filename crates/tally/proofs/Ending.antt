-- Where the group of a row ends: before the first row behind it with other grouping values.
use Rattle.std.proofs.Common.{◌≡◌, ℕ, ◌+◌, ◌-◌, ◌<◌, ◌≤◌, Bool, true, false, List, length, get_or, take, drop, Some, None, Option, MatchOption, Decides, sym, refl, ap, ◌∙◌, subst, arith}
use Rattle.std.specs.List.{AllWithin, HoldsAt}
use Rattle.std.specs.Option.{unwrap_or}
use Rattle.std.specs.Ordering.{int_eq}
use Rattle.std.specs.Cmp.Lexicographic.{pointwise}
use Rattle.std.proofs.lemmas.List.{get_or-take, get_or-drop, length-drop, length-take-le}
use Rattle.std.proofs.lemmas.Slice.Eq.{slice_eq-Decides}
use Rattle.std.proofs.lemmas.Bool.{both_ways, false≢true}
use Rattle.std.proofs.lemmas.Bool.Decides.{Decides-int_eq}
use Rattle.relation.specs.declared.rows.Row.{Row}
use Rattle.relation.specs.Bounds.{most_columns}
use Rattle.relation.specs.Sets.{Tuple}
use Rattle.collect.specs.Areas.{no_row}
use Rattle.tally.specs.Gathered.{group_key, Alike, Run}
use Rattle.tally.proofs.Gathering.{alike_from, alike_to}

-- whether the padded grouping values of two rows are the same
abbrev pub same? : List ℕ → Tuple → Row → Bool
same? by group w = pointwise int_eq (group_key by w) group

same_decides : (by : List ℕ) (group : Tuple) (w : Row) → Decides (same? by group w) (group_key by w ≡ group)
same_decides by group w = slice_eq-Decides Decides-int_eq _ _ (same? by group w) refl

module _ (by : List ℕ) (rows : List Row) (from : ℕ) (some : from < length rows) (few : length by ≤ most_columns) (group : Tuple) (of : group ≡ group_key by (get_or rows from no_row)) where
  -- the rows from there on
  abbrev left : List Row
  left = take (length rows - from) (drop from rows)

  left_long : length left ≡ length rows - from
  left_long = length-take-le (length rows - from) (drop from rows) (omega (arith, length-drop from rows))

  left_at : (j : ℕ) → from + j < length rows → get_or left j no_row ≡ get_or rows (from + j) no_row
  left_at j lt = get_or-take (length rows - from) (drop from rows) j no_row (omega arith) ∙ get_or-drop from rows j no_row

  alike_at : (j : ℕ) → from + j < length rows → same? by group (get_or left j no_row) ≡ true → Alike by (get_or rows (from + j) no_row) (get_or rows from no_row)
  alike_at j lt e = alike_from by (get_or rows (from + j) no_row) (get_or rows from no_row) _ _ few refl of ((same_decides by group (get_or rows (from + j) no_row)).0 (ap (same? by group) (sym (left_at j lt)) ∙ e))

  -- from there on the first n rows are of the group
  run_of : (n : ℕ) → from + n ≤ length rows → 0 < n → ((k : ℕ) → k < n → same? by group (get_or left k no_row) ≡ true) → (from + n < length rows → same? by group (get_or left n no_row) ≡ false) → Run by rows from (from + n)
  run_of n within more all ends = record {
    some = omega arith;
    within = within;
    alike = λ i a b. let is : from + (i - from) ≡ i = omega arith in subst (λ j. Alike by (get_or rows j no_row) (get_or rows from no_row)) is (alike_at (i - from) (omega arith) (all (i - from) (omega arith)));
    ends = λ lt e. both_ways _ (ap (same? by group) (sym (left_at n lt)) ∙ ends lt) ((same_decides by group (get_or rows (from + n) no_row)).1 (alike_to by (get_or rows (from + n) no_row) (get_or rows from no_row) _ _ refl of e));
  }

  first_same : same? by group (get_or left 0 no_row) ≡ true
  first_same = let here : from + 0 ≡ from = omega arith in (same_decides by group (get_or left 0 no_row)).1 (ap (group_key by) (left_at 0 (omega arith) ∙ ap (λ k. get_or rows k no_row) here) ∙ sym of)

  pub run_from : (r : Option ℕ) → MatchOption r (AllWithin (λ w. same? by group w ≡ true) left 0 (length left)) (λ i. (i < length left) × HoldsAt (λ w. same? by group w ≡ false) left i × AllWithin (λ w. same? by group w ≡ true) left 0 i) → (n : ℕ) → n ≡ unwrap_or r (length left) → Run by rows from (from + n)
  run_from None all n is = subst (λ k. Run by rows from (from + k)) (sym is) (run_of (length left) (omega (arith, left_long)) (omega (arith, left_long)) (λ k lt. all k no_row (omega arith) lt) (λ lt. absurd (omega (arith, left_long))))
  run_from (Some m) h n is =
      let apart : m ≡ 0 → ⊥ = λ e. false≢true (sym (subst (λ k. same? by group (get_or left k no_row) ≡ false) e (h.1 no_row)) ∙ first_same) in
      subst (λ k. Run by rows from (from + k)) (sym is) (run_of m (omega (arith, left_long, h.0)) (omega (arith, apart)) (λ k lt. h.2 k no_row (omega arith) lt) (λ lt. h.1 no_row))
