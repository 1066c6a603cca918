use Rattle.ledger.proofs.Going.{by_call, then_on}
use Rattle.ledger.proofs.workshop.Workshop.clear.Goals as goal

pub loop-paper-preserved-in-First : goal.loop-paper-preserved-in-First
loop-paper-preserved-in-First c = (then_on _ _ _ c.loop-paper.invariant.0 (by_call _ _ _ c.abandon.ensures.accounts), c.loop-paper.invariant.1)

pub loop-paper-preserved : goal.loop-paper-preserved
loop-paper-preserved c = (c.loop-paper.invariant.0, then_on _ _ _ c.loop-paper.invariant.1 (by_call _ _ _ c.abandon-in-Second.ensures.accounts))
