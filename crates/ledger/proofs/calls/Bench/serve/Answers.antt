use Rattle.ledger.proofs.Going.{by_call}
use Rattle.ledger.proofs.calls.Bench.serve.Goals as goal

pub returns-in_ok-drop-in-Drop : goal.returns-in_ok-drop-in-Drop
returns-in_ok-drop-in-Drop c = by_call _ _ _ c.drop.ensures.accounts
