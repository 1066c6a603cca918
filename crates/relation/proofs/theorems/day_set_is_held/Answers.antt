use Rattle.relation.proofs.Held.{day_set}
use Rattle.relation.proofs.theorems.day_set_is_held.Goals as goal

pub returns : goal.returns
returns c = day_set
