use Rattle.ledger.proofs.Going.{by_call}
use Rattle.ledger.proofs.calls.Bench.put.Goals as goal

pub returns : goal.returns
returns c = by_call _ _ _ c.put.ensures.accounts
