use Rattle.layers.proofs.DaySets.{selects}
use Rattle.layers.proofs.theorems.select_is_selection.Goals as goal

pub returns : goal.returns
returns c = selects
