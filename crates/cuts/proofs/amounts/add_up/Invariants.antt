use Rattle.std.proofs.Common.{◌≡◌, length}
use Rattle.cuts.proofs.Adding.{Adding}
use Rattle.cuts.proofs.amounts.add_up.Given as goal

abbrev pub invariant-loop-change : goal.invariant-loop-change
invariant-loop-change l = Adding l.initial.change-items l.change-items l.change-index l.rows l.amount × (length l.change-items ≡ length l.initial.change-items)
