use Rattle.std.proofs.Common.{◌≡◌, ◌-◌, ◌≤◌, false}
use Rattle.except.specs.Blockers.{barred, stop}
use Rattle.except.proofs.blockers.Blockers.piece_end.Given as goal

abbrev pub invariant-loop-p : goal.invariant-loop-p
invariant-loop-p g l =
    (l.p ≤ l.n) × (barred (g.S.Source.meaning l.self.source.now) l.self.tuple.now l.day l.j l.p ≡ false)
    × (l.least ≡ stop (g.S.Source.meaning l.self.source.now) l.self.tuple.now l.day l.end l.p)

abbrev pub decreases-loop-p : goal.decreases-loop-p
decreases-loop-p g l = l.n - l.p
