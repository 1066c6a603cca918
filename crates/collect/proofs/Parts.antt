-- The part of the work areas that counts, lent and given back.
use native.Mathlib.Nat.{sub-zero}
use Rattle.std.proofs.Common.{◌≡◌, ℕ, List, ◌++◌, length, take, drop, sym, refl, ap, ◌∙◌, subst, arith}
use borrow.Rule.Slice.PartMut.{post_of, Post-is}
use Rattle.std.proofs.lemmas.List.{length-take-le}
use Rattle.relation.specs.declared.rows.Row.{Row}
use Rattle.relation.specs.Sets.{TupleSet}
use Rattle.tree.specs.declared.Node.{Node}
use Rattle.collect.specs.Collects.{counted, HoldsList, LeavesList}
use Rattle.collect.proofs.Written.{take_front, drop_front}

-- xs as it was, and as its part up to e was lent
module _ {X : Type 0} (xs lent part : List X) (e : ℕ) (all : e ≡ counted xs) (long : length lent ≡ length xs) (still : drop e lent ≡ drop e xs) (same : length part ≡ length (take e lent)) where
  part_size : length (take e lent) ≡ counted xs
  part_size = length-take-le e lent (omega arith) ∙ omega arith

  part_back : take (counted xs) (part ++ post_of 0 e lent) ≡ part
  part_back = take_front (counted xs) part (post_of 0 e lent) (same ∙ part_size)

  rest_kept : drop (counted xs) (part ++ post_of 0 e lent) ≡ drop (counted xs) xs
  rest_kept = drop_front (counted xs) part (post_of 0 e lent) (same ∙ part_size) ∙ ap (λ k. post_of 0 k lent) (sym (sub-zero e)) ∙ Post-is 0 e lent (omega arith) ∙ still ∙ ap (λ k. drop k xs) all

pub leaves : (f : ℕ → TupleSet) (rows lent part-rows : List Row) (index part-index : List Node) (re ie n : ℕ) → re ≡ counted rows → ie ≡ counted index
    → length lent ≡ length rows → drop re lent ≡ drop re rows
    → length part-rows ≡ length (take re lent) → length part-index ≡ length (take ie index)
    → HoldsList f (length (take re lent)) (length (take ie index)) n part-rows part-index
    → LeavesList f rows index n (part-rows ++ post_of 0 re lent) (part-index ++ post_of 0 ie index)
leaves f rows lent part-rows index part-index re ie n p q long still sr si h = record {
  part =
      subst (λ x. HoldsList f (counted rows) (counted index) n x (take (counted index) (part-index ++ post_of 0 ie index))) (sym (part_back rows lent part-rows re p long still sr))
      (subst (λ x. HoldsList f (counted rows) (counted index) n part-rows x) (sym (part_back index index part-index ie q refl refl si))
      (subst (λ k. HoldsList f k (counted index) n part-rows part-index) (part_size rows lent part-rows re p long still sr)
      (subst (λ k. HoldsList f (length (take re lent)) k n part-rows part-index) (part_size index index part-index ie q refl refl si) h)));
  rows_rest = rest_kept rows lent part-rows re p long still sr;
  index_rest = rest_kept index index part-index ie q refl refl si;
}
