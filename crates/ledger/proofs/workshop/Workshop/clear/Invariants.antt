use Rattle.std.proofs.Common.{vec_len}
use Rattle.ledger.specs.Histories.{GoesOn}
use Rattle.ledger.proofs.workshop.Workshop.clear.Given as goal

abbrev pub invariant-loop-paper : goal.invariant-loop-paper
invariant-loop-paper l = GoesOn l.initial.self.first.store l.self.first.store × GoesOn l.initial.self.second.store l.self.second.store

abbrev pub decreases-loop-paper : goal.decreases-loop-paper
decreases-loop-paper l = vec_len l.self.bench.desk
