use Rattle.ledger.proofs.Going.{then_on}
use Rattle.ledger.proofs.calls.Bench.publish.Goals as goal

pub returns-in_err-lay-in-Err : goal.returns-in_err-lay-in-Err
returns-in_err-lay-in-Err c = then_on _ _ _ c.publish.ensures c.lay.ensures

pub returns-in_ok-lay-in-Err : goal.returns-in_ok-lay-in-Err
returns-in_ok-lay-in-Err c = then_on _ _ _ c.publish.ensures c.lay.ensures
