-- Each turn is a step of `Sweeping`; the rows swept are the canonical list of the day sets.
use Rattle.std.proofs.Common.{◌≡◌, ℕ, ◌+◌, ◌<◌, ◌≤◌, Bool, true, false, ◌⊎◌, List, map, length, get_or, take, ℤ, Decides, sym, ◌∙◌, subst, inl, inr, arith}
use Rattle.std.specs.List.{AllByRecursion as AllOf}
use Rattle.std.proofs.lemmas.List.{take_all}
use Rattle.std.proofs.lemmas.Slice.Eq.{slice_eq-Decides}
use Rattle.std.proofs.lemmas.Bool.{both_ways, eqb-false}
use Rattle.relation.specs.Rows.{on, Lists}
use Rattle.collect.specs.Areas.{no_row, bare}
use Rattle.collect.proofs.Sweeping.{sweeping_none, sweeping_grown, sweeping_new, sweeping_all, swept, swept_lists, swept_drawn, Drawn, at_row}
use Rattle.collect.proofs.coalesce.coalesce.Goals as goal
use Rattle.collect.proofs.coalesce.coalesce.Goals.{then-eq+then-row-open, else-eq}
use Rattle.std.proofs.lemmas.Bool.Decides.{Decides-int_eq}

pub loop-i-init : goal.loop-i-init
loop-i-init c =
    let some = eqb-false (length c.args.rows.now) 0 (sym c.is_empty.ensures ∙ c.if-is_empty.false) in
    sweeping_none (length c.args.rows.now) c.args.rows.now (omega (arith, some))

-- the two tests failed
apart : (xs ys : List ℤ) (first end : ℕ) (b : Bool) → Decides b (xs ≡ ys) → ((b ≡ true) × (end < first)) ⊎ (b ≡ false) → xs ≡ ys → first ≤ end → ⊥
apart xs ys first end b d (inl h) e l = omega arith
apart xs ys first end b d (inr h) e l = both_ways b h (d.1 e)

pub loop-i-preserved : goal.loop-i-preserved
loop-i-preserved c =
    let same : Decides c.eq.result ((get_or c.loop-i.rows c.loop-i.last no_row).values ≡ (get_or c.loop-i.rows c.loop-i.i no_row).values) = slice_eq-Decides Decides-int_eq _ _ _ c.eq.ensures in
    elim c.if-eq.branch [
      | then-eq+then-row-open w ↦ rw (w.rows-is, w.last-is) (sweeping_grown _ _ _ _ _ c.loop-i.invariant c.loop-i-test.true (omega arith) (omega arith) w.max.result w.max.ensures (same.0 w.if-eq.true) (omega arith))
      | else-eq w ↦ rw (w.rows-is, w.last-is) (sweeping_new _ _ _ _ _ c.loop-i.invariant c.loop-i-test.true (omega arith) (omega arith) (apart _ _ _ _ _ same w.else-eq.either))
    ]

pub returns : goal.returns
returns c =
    let is : map bare (take (c.loop-i.last + 1) c.loop-i.rows) ≡ swept (length c.args.rows.now) c.args.rows.now = sweeping_all _ _ _ _ _ c.loop-i.invariant c.loop-i-test.false (omega arith) (omega arith) in
    record {
      few = omega arith;
      lists = subst (λ l. Lists l (on (map bare c.args.rows.now))) (sym is) (subst (λ l. Lists (swept (length c.args.rows.now) c.args.rows.now) (on (map bare l))) (take_all (length c.args.rows.now) c.args.rows.now (omega arith)) (swept_lists (length c.args.rows.now) c.args.rows.now (omega arith) (omega arith) c.requires.sorted c.requires.periods));
      drawn = at_row (Drawn (length c.args.rows.now) c.args.rows.now) (c.loop-i.last + 1) c.loop-i.rows (omega arith) (subst (AllOf (Drawn (length c.args.rows.now) c.args.rows.now)) (sym is) (swept_drawn (length c.args.rows.now) c.args.rows.now (omega arith) (omega arith)));
    }
