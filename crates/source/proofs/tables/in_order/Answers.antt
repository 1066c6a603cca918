use Rattle.std.proofs.Common.{rules}
use Rattle.std.proofs.lemmas.Fn.{always_returns_same}
use Rattle.source.proofs.Risen.{rises, order_told}
use Rattle.source.proofs.tables.in_order.Goals as goal

pub returns : goal.returns
returns c =
    order_told c.args.rows.now c.args.kinds.now c.is_sorted_by.result
    (c.is_sorted_by.ensures.cases (rises c.args.rows.now c.args.kinds.now) (always_returns_same _ _ _ (λ a r q k. search rules)))
