use Rattle.std.proofs.Common.{refl, ltb, ℕ, ◌<◌, ◌≤◌, List, length, map, get_or, ℤ, ap, ◌∙◌, arith, w64, rules}
use Rattle.std.proofs.lemmas.Int.{to_z-of_z}
use Rattle.std.proofs.lemmas.Bool.{ltb-true, ltb-false}
use Rattle.std.proofs.lemmas.List.{get_or_default, set-get_or}
use Rattle.std.proofs.lemmas.List.Sorted.{IsPartitionPoint-from_clause, IsPartitionedBy-ltb}
use Rattle.relation.specs.declared.rows.Row.{Row}
use Rattle.collect.specs.Areas.{no_row}
use Rattle.cuts.specs.Bests.{kept_by_row}
use Rattle.cuts.proofs.Keeping.{keeping_none, keeping_more, keeping_all, next_still, left_reached, left_rises, kept_whole}
use Rattle.cuts.proofs.bests.keep.Goals as goal

-- the days rise whatever is read past the end
rises_at : (cuts : List Row) (i j : ℕ) (d : Row) → i ≤ j → j < length cuts → (get_or cuts i no_row).first ≤ (get_or cuts j no_row).first → (get_or cuts i d).first ≤ (get_or cuts j d).first
rises_at cuts i j d le lt h = omega (arith, ap (λ w. w.first) (get_or_default cuts i no_row d (omega arith)), ap (λ w. w.first) (get_or_default cuts j no_row d lt))

pub loop-cut-init : goal.loop-cut-init
loop-cut-init c =
    let cuts = c.args.cuts.now in
    let begun = c.partition_point-begun.result in
    let day = c.args.row.now.first in
    let p = IsPartitionPoint-from_clause (λ (w : Row). ltb w.first day) cuts begun c.partition_point-begun.ensures.partitioned
    (IsPartitionedBy-ltb (λ (w : Row). w.first) cuts day (λ i j d le lt. rises_at cuts i j d le lt (c.requires i j le lt))) (λ a r q k. search rules) in
    let low = λ (k : ℕ) (lt : k < begun). ltb-true _ _ (p.0 k no_row (omega arith) lt) in
    let high = λ (k : ℕ) (le : begun ≤ k) (lt : k < length cuts). ltb-false _ _ (p.1 k no_row le lt) in
    (keeping_none _ _ _ _ (left_reached cuts begun c.partition_point-begun.ensures.bound c.args.row.now high), refl, low)

pub loop-cut-preserved : goal.loop-cut-preserved
loop-cut-preserved c = (keeping_more _ _ _ _ _ _ c.loop-cut.invariant.0 c.loop-cut.invariant.1 (omega arith) _ c.keep_at.ensures c.if-cut-row.false, search rules, c.loop-cut.invariant.2)

pub returns-after-loop-cut : goal.returns-after-loop-cut
returns-after-loop-cut c =
    let e = c.args.extreme in
    let row = c.args.row.now in
    let cuts = c.args.cuts.now in
    let begun = c.partition_point-begun.result in
    let le = c.partition_point-begun.ensures.bound in
    kept_whole cuts begun le e _ row c.loop-cut.cut-items c.loop-cut.invariant.2 (keeping_all _ _ _ _ _ _ c.loop-cut.invariant.0 (left_rises cuts begun le c.requires) (λ lt. absurd (omega arith)))
    ∙ ap (λ (z : ℤ). map (kept_by_row e z row) cuts) (to_z-of_z w64 c.args.value c.ranges.value)

pub returns-then-cut-row : goal.returns-then-cut-row
returns-then-cut-row c =
    let e = c.args.extreme in
    let row = c.args.row.now in
    let cuts = c.args.cuts.now in
    let begun = c.partition_point-begun.result in
    let le = c.partition_point-begun.ensures.bound in
    let still = next_still _ _ _ _ _ _ c.loop-cut.invariant.0 c.loop-cut.invariant.1 (omega arith) in
    kept_whole cuts begun le e _ row _ c.loop-cut.invariant.2
    (set-get_or _ _ _ ∙ keeping_all _ _ _ _ _ _ c.loop-cut.invariant.0 (left_rises cuts begun le c.requires) (λ lt. omega (arith, ap (λ w. w.first) still, c.if-cut-row.true)))
    ∙ ap (λ (z : ℤ). map (kept_by_row e z row) cuts) (to_z-of_z w64 c.args.value c.ranges.value)
