use Rattle.ledger.specs.Histories.{GoesOn}
use Rattle.ledger.proofs.serve_lines.Given as goal

abbrev pub invariant-loop-line : goal.invariant-loop-line
invariant-loop-line l = GoesOn l.initial.shop.first.store l.shop.first.store × GoesOn l.initial.shop.second.store l.shop.second.store
