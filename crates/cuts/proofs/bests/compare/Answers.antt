use Rattle.std.proofs.Common.{◌∙◌, arith, w64, SFits, rules}
use Rattle.std.proofs.lemmas.Int.{to_z-of_z}
use Rattle.cuts.proofs.Comparing.{compared_none, compared_rises, compared_more, compared_all}
use Rattle.cuts.proofs.bests.compare.Goals as goal

pub loop-row-init : goal.loop-row-init
loop-row-init c = compared_none c.args.extreme c.args.c c.args.group.now c.args.cuts.now

pub keep-requires : goal.keep-requires
keep-requires c = compared_rises c.args.extreme c.args.c c.args.group.now c.args.cuts.now c.loop-row.row-index _ c.loop-row.invariant c.requires

pub loop-row-preserved : goal.loop-row-preserved
loop-row-preserved c =
    let fits : SFits w64 c.column.result = search rules in
    compared_more c.args.extreme c.args.c c.args.group.now c.args.cuts.now c.loop-row.row-index c.loop-row.cuts c.keep.new.cuts _ (omega arith) c.loop-row.invariant (to_z-of_z w64 _ fits ∙ c.column.ensures) c.keep.ensures

pub returns : goal.returns
returns c = compared_all c.args.extreme c.args.c c.args.group.now c.args.cuts.now c.loop-row.row-index _ (omega arith) c.loop-row.invariant
