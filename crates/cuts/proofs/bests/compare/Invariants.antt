use Rattle.std.proofs.Common.{◌≡◌}
use Rattle.cuts.proofs.Comparing.{compared}
use Rattle.cuts.proofs.bests.compare.Given as goal

abbrev pub invariant-loop-row : goal.invariant-loop-row
invariant-loop-row l = l.cuts ≡ compared l.extreme l.c l.group l.initial.cuts l.row-index
