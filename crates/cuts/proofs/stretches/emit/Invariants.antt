use Rattle.cuts.proofs.Emitting.{Emitting}
use Rattle.cuts.proofs.stretches.emit.Given as goal

abbrev pub invariant-loop-i : goal.invariant-loop-i
invariant-loop-i l = Emitting l.group l.by.columns.now l.initial.cuts l.cuts l.made l.i
