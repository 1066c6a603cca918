use Rattle.relation.proofs.Tuples.{first_difference}
use Rattle.relation.proofs.theorems.first_difference_decides.Goals as goal

pub returns : goal.returns
returns c = first_difference
