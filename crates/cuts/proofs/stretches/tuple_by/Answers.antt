use Rattle.std.proofs.Common.{◌≡◌, length, set, pos, ◌∙◌, ap₂, arith, w64}
use lib.ListN.{length-map}
use Rattle.std.proofs.lemmas.Int.{to_z-of_z}
use Rattle.relation.specs.Bounds.{most_columns}
use Rattle.relation.specs.Operations.{picked}
use Rattle.relation.specs.Sets.{column}
use Rattle.relation.proofs.Picking.{firsts_push}
use Rattle.cuts.proofs.stretches.tuple_by.Goals as goal

pub returns : goal.returns
returns c =
    let by = c.args.by.columns.now in
    let vs = picked by c.args.group.now.values in
    let long : length vs ≡ length by = length-map by (λ k. column k c.args.group.now.values) in
    ap₂ (λ us z. set us (length by) z) c.pick-values.ensures (to_z-of_z w64 c.args.amount c.ranges.amount)
    ∙ firsts_push most_columns vs (pos 0) c.args.amount (length by) long (omega (arith, c.args.by.few))
