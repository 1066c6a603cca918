-- The changes at the cuts are added up, from turn to turn.
use Rattle.std.proofs.Common.{◌≡◌, ℕ, ◌+◌, ◌*◌, ◌<◌, ◌≤◌, List, [], ◌∷◌, ◌++◌, length, get_or, take, drop, set, ℤ, pos, ◌+ℤ◌, neg_ℤ, nat_abs, ◌≤ℤ◌, sym, ap, ◌∙◌, subst, arith, w64, SFits, to_z, of_z}
use Rattle.std.specs.List.{AllByRecursion as AllOf}
use Rattle.std.proofs.ByRecursion.{All-get_or}
use Rattle.std.proofs.lemmas.List.{append_assoc, drop_more, drop-set-lt, take_more_set, at_drop_more}
use Rattle.std.proofs.lemmas.Int.{ints, to_z-of_z}
use Rattle.relation.specs.declared.rows.Row.{Row}
use Rattle.collect.specs.Areas.{no_row}
use Rattle.relation.specs.Bounds.{largest_number, smallest_number}
use Rattle.cuts.specs.Amounts.{value}
use Rattle.cuts.specs.Cuts.{cut_row, most_cuts}
use Rattle.cuts.specs.Totals.{Small, totals}

-- a sum that stays far below what an i64 holds
sum_fits : (i : ℕ) (x y : ℤ) → i < most_cuts → neg_ℤ (pos (i * nat_abs largest_number)) ≤ℤ x → x ≤ℤ pos (i * nat_abs largest_number) → smallest_number ≤ℤ y → y ≤ℤ largest_number → SFits w64 (x +ℤ y)
sum_fits i x y lt a b c d = omega (arith, ints)

number_fits : (y : ℤ) → smallest_number ≤ℤ y → y ≤ℤ largest_number → SFits w64 y
number_fits y c d = omega (arith, ints)

-- a sum as it is computed
abbrev computed : ℤ → ℤ → ℤ
computed x y = to_z w64 (of_z w64 (x +ℤ to_z w64 (of_z w64 y)))

sum_is : (x y : ℤ) → SFits w64 y → SFits w64 (x +ℤ y) → computed x y ≡ x +ℤ y
sum_is x y f g = ap (λ t. to_z w64 (of_z w64 (x +ℤ t))) (to_z-of_z w64 y f) ∙ to_z-of_z w64 (x +ℤ y) g

-- cuts as they were and as they are now, of which the first i are done; n rows and the amount z at the last of them
pub record Adding (before after : List Row) (i : ℕ) (n z : ℤ) : Type 0 where
  pub front : take i after ++ totals n z (drop i before) ≡ totals (pos 0) (pos 0) before
  pub rest : drop i after ≡ drop i before
  pub n_low : neg_ℤ (pos (i * nat_abs largest_number)) ≤ℤ n
  pub n_high : n ≤ℤ pos (i * nat_abs largest_number)
  pub z_low : neg_ℤ (pos (i * nat_abs largest_number)) ≤ℤ z
  pub z_high : z ≤ℤ pos (i * nat_abs largest_number)

module _ (before after : List Row) (i : ℕ) (n z : ℤ) (a : Adding before after i n z) (same : length after ≡ length before) where
  module _ (lt : i < length before) where
    -- the next cut is as it was
    cut_still : get_or after i no_row ≡ get_or before i no_row
    cut_still = ap (λ ws. get_or ws 0 no_row) (sym (drop_more after i no_row (omega arith)) ∙ a.rest ∙ drop_more before i no_row lt)

    abbrev c : Row
    c = get_or before i no_row

    adding_more : AllOf Small before → (w : Row) → w ≡ cut_row c.first (n +ℤ value 0 c) (z +ℤ value 1 c) → Adding before (set after i w) (i + 1) (n +ℤ value 0 c) (z +ℤ value 1 c)
    adding_more all w is =
        let s = All-get_or Small before i no_row lt all in
        record {
          front =
              ap (λ xs. xs ++ totals (n +ℤ value 0 c) (z +ℤ value 1 c) (drop (i + 1) before)) (take_more_set after i w (omega arith))
              ∙ append_assoc (take i after) (w ∷ []) (totals (n +ℤ value 0 c) (z +ℤ value 1 c) (drop (i + 1) before))
              ∙ ap (λ v. take i after ++ (v ∷ totals (n +ℤ value 0 c) (z +ℤ value 1 c) (drop (i + 1) before))) is
              ∙ ap (λ xs. take i after ++ xs) (sym (at_drop_more (totals n z) before i no_row lt))
              ∙ a.front;
          rest = drop-set-lt (i + 1) after i w (omega arith) ∙ rest_more;
          n_low = omega (arith, ints, a.n_low, s.rows_low);
          n_high = omega (arith, ints, a.n_high, s.rows_high);
          z_low = omega (arith, ints, a.z_low, s.amount_low);
          z_high = omega (arith, ints, a.z_high, s.amount_high);
        }
      where
        rest_more : drop (i + 1) after ≡ drop (i + 1) before
        rest_more = ap (drop 1) (sym (drop_more after i no_row (omega arith)) ∙ a.rest ∙ drop_more before i no_row lt)

    abbrev d : Row
    d = get_or after i no_row

    module _ (few : length before ≤ most_cuts) (all : AllOf Small before) where
      small : Small d
      small = subst Small (sym cut_still) (All-get_or Small before i no_row lt all)

      rows_number : SFits w64 (value 0 d)
      rows_number = number_fits (value 0 d) small.rows_low small.rows_high

      rows_sum : SFits w64 (n +ℤ value 0 d)
      rows_sum = sum_fits i n (value 0 d) (omega arith) a.n_low a.n_high small.rows_low small.rows_high

      amount_number : SFits w64 (value 1 d)
      amount_number = number_fits (value 1 d) small.amount_low small.amount_high

      amount_sum : SFits w64 (z +ℤ value 1 d)
      amount_sum = sum_fits i z (value 1 d) (omega arith) a.z_low a.z_high small.amount_low small.amount_high

      pub rows_fit : SFits w64 (n +ℤ to_z w64 (of_z w64 (value 0 d)))
      rows_fit = subst (λ x. SFits w64 (n +ℤ x)) (sym (to_z-of_z w64 (value 0 d) rows_number)) rows_sum

      pub amount_fits : SFits w64 (z +ℤ to_z w64 (of_z w64 (value 1 d)))
      amount_fits = subst (λ x. SFits w64 (z +ℤ x)) (sym (to_z-of_z w64 (value 1 d) amount_number)) amount_sum

      pub adding_turn : (w : Row) → w ≡ cut_row d.first (computed n (value 0 d)) (computed z (value 1 d)) → Adding before (set after i w) (i + 1) (computed n (value 0 d)) (computed z (value 1 d))
      adding_turn w is =
          let x : computed n (value 0 d) ≡ n +ℤ value 0 c = sum_is n (value 0 d) rows_number rows_sum ∙ ap (λ r. n +ℤ value 0 r) cut_still in
          let y : computed z (value 1 d) ≡ z +ℤ value 1 c = sum_is z (value 1 d) amount_number amount_sum ∙ ap (λ r. z +ℤ value 1 r) cut_still in
          subst (λ p. Adding before (set after i w) (i + 1) p (computed z (value 1 d))) (sym x)
          (subst (λ q. Adding before (set after i w) (i + 1) (n +ℤ value 0 c) q) (sym y)
          (adding_more all w (is ∙ (λ k. cut_row (cut_still k).first (x k) (y k)))))
