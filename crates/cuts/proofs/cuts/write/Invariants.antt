use Rattle.std.proofs.Common.{◌≡◌}
use Rattle.cuts.proofs.Writing.{with_cuts}
use Rattle.cuts.proofs.cuts.write.Given as goal

abbrev pub invariant-loop-i : goal.invariant-loop-i
invariant-loop-i l = l.cuts ≡ with_cuts l.what l.group l.initial.cuts l.i
