use Rattle.std.proofs.Common.{◌≡◌, ◌-◌, ◌≤◌, length, arith, rules}
use Rattle.std.specs.List.{between}
use Rattle.std.proofs.lemmas.List.Edits.{length-between}
use Rattle.tally.proofs.Running.{running_more, running_all, given_still, given_new}
use Rattle.tally.proofs.runs.tally_groups.Goals as goal

pub loop-from-preserved : goal.loop-from-preserved
loop-from-preserved c =
    let rows = c.args.rows.now in
    let out = c.loop-from.out in
    let from = c.loop-from.from in
    let made = c.loop-from.made in
    let upto = c.group_end-upto.result in
    let part = c.tally_group-made.new.out in
    let e = c.tally_group-made.ensures in
    let run = c.group_end-upto.ensures in
    let size : length (between from upto rows) ≡ upto - from = length-between rows from upto run.within in
    let few = c.loop-from.invariant.0.few in
    let le : made ≤ length out = omega (arith, few) in
    let room : c.tally_group-made.result ≤ length part = omega (arith, few, size, e.few, c.tally_group-made.auto.out, run.within) in (
      running_more c.args.what c.args.by.columns.now rows out from made c.loop-from.invariant.0 c.requires.together c.loop-from-test.true upto run _ part c.tally_group-made.result e.few room
          (given_still out part made le) (λ j lt. given_new out part made le j (omega arith)) e.periods e.rows e.all,
      search rules,
    )

pub returns-clause-results : goal.returns-clause-results
returns-clause-results c = running_all c.args.what c.args.by.columns.now c.args.rows.now c.loop-from.out c.loop-from.from c.loop-from.made c.loop-from.invariant.0 c.loop-from-test.false (omega (arith, c.loop-from.invariant.0.few, c.loop-from.invariant.0.reached))
