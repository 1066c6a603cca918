use Rattle.std.proofs.Common.{◌≡◌, ◌-◌}
use Rattle.source.specs.Filled.{rows_left}
use Rattle.source.proofs.filled.FilledIterator.next.Given as goal

abbrev pub invariant-loop-self : goal.invariant-loop-self
invariant-loop-self g l = (l.self.source ≡ l.initial.self.source) × (rows_left g.S.Source.meaning l.self ≡ rows_left g.S.Source.meaning l.initial.self)

abbrev pub decreases-loop-self : goal.decreases-loop-self
decreases-loop-self g l = (g.S.Source.meaning l.self.source.now).count - l.self.place
