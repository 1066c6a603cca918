use Rattle.std.proofs.Common.{get_or, ◌∙◌, arith, rules}
use Rattle.std.proofs.ByRecursion.{All-get_or}
use Rattle.collect.specs.Areas.{no_row}
use Rattle.cuts.specs.Amounts.{Within}
use Rattle.cuts.proofs.Cutting.{closed_is}
use Rattle.cuts.proofs.Writing.{cuts_more, cuts_all}
use Rattle.cuts.proofs.cuts.write.Goals as goal

pub loop-i-preserved : goal.loop-i-preserved
loop-i-preserved c =
    let group = c.args.group.now in
    let within = All-get_or (Within c.args.what) group c.loop-i.i no_row c.loop-i-test.true c.requires.within in
    cuts_more c.args.what group c.args.cuts.now c.requires.room c.loop-i.i _ _ _ c.loop-i-test.true c.loop-i.invariant (search rules)
    (c.cut-in-loop-i.ensures ∙ closed_is c.args.what (get_or group c.loop-i.i no_row) c.change_by-change.result within c.change_by-change.ensures)

pub returns : goal.returns
returns c = cuts_all c.args.what c.args.group.now c.args.cuts.now c.requires.room c.loop-i.i _ (omega arith) c.loop-i.invariant
