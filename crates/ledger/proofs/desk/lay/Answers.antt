use Rattle.ledger.proofs.Going.{by_call}
use Rattle.ledger.proofs.desk.lay.Goals as goal

pub returns-in-Err : goal.returns-in-Err
returns-in-Err c = by_call _ _ _ c.abandon.ensures.accounts
