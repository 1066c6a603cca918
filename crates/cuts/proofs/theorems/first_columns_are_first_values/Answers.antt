use Rattle.cuts.proofs.Widths.{tuples_first, stretches_first, rows_first}
use Rattle.cuts.proofs.theorems.first_columns_are_first_values.Goals as goal

pub returns : goal.returns
returns c = record { tuples = tuples_first; stretches = stretches_first; rows = rows_first }
