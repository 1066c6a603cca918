use Rattle.std.proofs.Common.{arith, rules}
use Rattle.cuts.proofs.Adding.{rows_fit, amount_fits, adding_turn}
use Rattle.cuts.proofs.amounts.add_up.Goals as goal

pub overflow_add-rows : goal.overflow_add-rows
overflow_add-rows c = rows_fit _ _ _ _ _ c.loop-change.invariant.0 c.loop-change.invariant.1 (omega arith) c.requires.few c.requires.small

pub overflow_add-amount : goal.overflow_add-amount
overflow_add-amount c = amount_fits _ _ _ _ _ c.loop-change.invariant.0 c.loop-change.invariant.1 (omega arith) c.requires.few c.requires.small

pub loop-change-preserved : goal.loop-change-preserved
loop-change-preserved c = (adding_turn _ _ _ _ _ c.loop-change.invariant.0 c.loop-change.invariant.1 (omega arith) c.requires.few c.requires.small _ c.cut.ensures, search rules)
