use Rattle.std.proofs.Common.{sym, ◌∙◌, arith}
use Rattle.std.proofs.lemmas.Bool.{eqb-false}
use Rattle.layers.proofs.Picks.{all_columns_lem}
use Rattle.layers.proofs.columns.Columns.new.Goals as goal

pub returns : goal.returns
returns c = (
  all_columns_lem c.args.last c.args.columns.now (omega (arith, eqb-false _ _ (sym c.is_empty.ensures ∙ c.if-is_empty.false))) c.in_ok-at.ensures.0 (sym c.all_columns.ensures ∙ c.if-not-all_columns.false),
  c.in_ok-at.ensures.1,
)
