use Rattle.relation.proofs.Fewest.{fewest}
use Rattle.relation.proofs.theorems.no_list_is_shorter.Goals as goal

pub returns : goal.returns
returns c = fewest
