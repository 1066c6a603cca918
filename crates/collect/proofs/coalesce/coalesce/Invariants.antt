use Rattle.std.proofs.Common.{length}
use Rattle.collect.proofs.Sweeping.{Sweeping}
use Rattle.collect.proofs.coalesce.coalesce.Given as goal

abbrev pub invariant-loop-i : goal.invariant-loop-i
invariant-loop-i l = Sweeping (length l.initial.rows) l.initial.rows l.rows l.last l.i
