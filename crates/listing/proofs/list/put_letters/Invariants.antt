use Rattle.std.proofs.Common.{map, take}
use Rattle.listing.specs.Text.{letter}
use Rattle.listing.proofs.list.put_letters.Given as goal

abbrev pub invariant-loop-kind : goal.invariant-loop-kind
invariant-loop-kind g l = g.S.Sink.takes l.initial.sink (map letter (take l.kind-index l.kinds)) l.sink
