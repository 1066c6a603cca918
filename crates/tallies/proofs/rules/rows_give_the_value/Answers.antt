use Rattle.tallies.proofs.RowsTallied.{rows_tallied}
use Rattle.tallies.proofs.rules.rows_give_the_value.Goals as goal

pub returns : goal.returns
returns c = rows_tallied
