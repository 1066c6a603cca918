use Rattle.std.proofs.Common.{take, ◌∙◌, arith, w64, SFits, rules}
use Rattle.std.proofs.lemmas.Int.{to_z-of_z}
use Rattle.std.proofs.lemmas.List.{length-take-le}
use Rattle.relation.specs.Bounds.{most_columns}
use Rattle.relation.proofs.Picking.{picked_more, picked_all}
use Rattle.relation.proofs.rows.Row.pick.Goals as goal

pub loop-i-preserved : goal.loop-i-preserved
loop-i-preserved c =
    let fits : SFits w64 c.column.result = search rules in
    let some = take c.min.result c.args.columns.now in
    let size = length-take-le c.min.result c.args.columns.now (omega arith) in
    picked_more most_columns some c.args.self.now.values c.loop-i.i _ _ c.loop-i-test.true (omega arith) c.loop-i.invariant (to_z-of_z w64 c.column.result fits ∙ c.column.ensures)

pub returns : goal.returns
returns c = c.loop-i.invariant ∙ picked_all most_columns (take c.min.result c.args.columns.now) c.args.self.now.values c.loop-i.i (omega arith) ∙ picked_all most_columns c.args.columns.now c.args.self.now.values c.min.result (omega arith)
