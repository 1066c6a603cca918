-- The tables: the sets by `grind`, on a day that is a variable.
use Rattle.std.proofs.Common.{◌≡◌, ℕ, List, refl, inl, inr, arith, lit<, lit≤}
use Rattle.std.specs.List.{AllByRecursion as AllOf}
use Rattle.std.proofs.lemmas.Bool.Decides.{nat_tests}
use Rattle.relation.specs.Lists.{Pairwise}
use Rattle.relation.specs.Sets.{Tuple, TupleSet, has}
use Rattle.relation.specs.Rows.{SpecRow, Period, on, Lists}
use Rattle.tallies.specs.Examples.{Tables, one}
use Rattle.relation.proofs.Clear.{Clear}
use Rattle.relation.proofs.FromClear.{canonical_from_clear, same_from_has}

by_test : (rows : List SpecRow) (f : ℕ → TupleSet) → AllOf Period rows → Pairwise Clear rows → ((d : ℕ) (t : Tuple) → has (on rows d) t ≡ has (f d) t) → Lists rows f
by_test rows f ps cs h = record { canonical = canonical_from_clear rows ps cs; sets = λ d _. same_from_has (on rows d) (f d) (h d) }

pub hold : Tables
hold = record {
  met = by_test _ _ ((lit< tt, lit≤ tt), tt) (tt, tt) (λ d t. grind (arith, nat_tests));
  kept_apart = by_test _ _ ((lit< tt, lit≤ tt), ((lit< tt, lit≤ tt), tt)) ((inr (refl, lit< tt), tt), (tt, tt)) (λ d t. refl);
  cut = by_test _ _ ((lit< tt, lit≤ tt), ((lit< tt, lit≤ tt), tt)) ((inr (refl, lit< tt), tt), (tt, tt)) (λ d t. grind (arith, nat_tests));
  all_cut = by_test _ _ tt tt (λ d t. grind (arith, nat_tests));
  no_shared_day = by_test _ _ tt tt (λ d t. grind (arith, nat_tests));
  shared_day = by_test _ _ ((lit< tt, lit≤ tt), tt) (tt, tt) (λ d t. grind (arith, nat_tests));
  counted = by_test _ _ ((lit< tt, lit≤ tt), ((lit< tt, lit≤ tt), ((lit< tt, lit≤ tt), tt))) ((inr (refl, lit< tt), (inl refl, tt)), ((inl refl, tt), (tt, tt))) (λ d t. grind (arith, nat_tests));
  summed = by_test _ _ ((lit< tt, lit≤ tt), ((lit< tt, lit≤ tt), ((lit< tt, lit≤ tt), tt))) ((inl refl, (inl refl, tt)), ((inl refl, tt), (tt, tt))) (λ d t. grind (arith, nat_tests));
  tuples_counted = by_test _ _ ((lit< tt, lit≤ tt), tt) (tt, tt) (λ d t. grind (arith, nat_tests));
  large_sum = by_test _ _ ((lit< tt, lit≤ tt), tt) (tt, tt) (λ d t. grind (arith, nat_tests));
  too_large_sum = (0, (lit< tt, (one 1000000000000, (inl refl, λ h. h.1.le))));
  last_day = (lit< tt, lit≤ tt);
  no_days = λ h. omega arith;
  past_days = λ h. omega arith;
  word_a = refl;
}
