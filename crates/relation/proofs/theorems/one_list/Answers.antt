use Rattle.relation.proofs.Told.{one_list}
use Rattle.relation.proofs.theorems.one_list.Goals as goal

pub returns : goal.returns
returns c = one_list
