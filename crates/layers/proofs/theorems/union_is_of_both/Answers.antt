use Rattle.layers.proofs.DaySets.{unites}
use Rattle.layers.proofs.theorems.union_is_of_both.Goals as goal

pub returns : goal.returns
returns c = unites
