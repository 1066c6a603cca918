use Rattle.ledger.proofs.Going.{by_call, then_on}
use Rattle.ledger.proofs.calls.Bench.draft.Goals as goal

pub returns-in_err-lay : goal.returns-in_err-lay
returns-in_err-lay c = then_on _ _ _ (by_call _ _ _ c.draft.ensures.accounts) c.lay.ensures

pub returns : goal.returns
returns c = then_on _ _ _ (by_call _ _ _ c.draft.ensures.accounts) c.lay.ensures
