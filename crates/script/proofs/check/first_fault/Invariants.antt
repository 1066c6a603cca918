use Rattle.std.proofs.Common.{◌≡◌, ◌+◌, None}
use Rattle.words.specs.Lines.{lines}
use Rattle.words.specs.Rest.{lines_left}
use Rattle.script.specs.Faults.{fault}
use Rattle.script.proofs.check.first_fault.Given as goal

abbrev pub invariant-loop-i : goal.invariant-loop-i
invariant-loop-i l = fault (l.i-iterator.count + 1) l.load (lines_left l.i-iterator.iter) ≡ fault 1 None (lines l.text)
