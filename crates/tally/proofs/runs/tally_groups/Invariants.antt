use Rattle.std.proofs.Common.{◌≡◌, ◌-◌, length}
use Rattle.tally.proofs.Running.{Running}
use Rattle.tally.proofs.runs.tally_groups.Given as goal

abbrev pub invariant-loop-from : goal.invariant-loop-from
invariant-loop-from l = Running l.what l.by.columns.now l.rows l.out l.from l.made × (length l.out ≡ length l.initial.out)

abbrev pub decreases-loop-from : goal.decreases-loop-from
decreases-loop-from l = length l.rows - l.from
