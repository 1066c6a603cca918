use Rattle.ledger.proofs.Going.{by_call}
use Rattle.ledger.proofs.calls.Areas.publish.Goals as goal

pub returns : goal.returns
returns c = by_call _ _ _ c.publish.ensures.accounts
