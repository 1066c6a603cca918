use Rattle.ledger.proofs.Going.{by_call}
use Rattle.ledger.proofs.calls.Bench.abandon.Goals as goal

pub returns : goal.returns
returns c = by_call _ _ _ c.abandon.ensures.accounts
