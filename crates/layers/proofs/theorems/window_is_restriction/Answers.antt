use Rattle.layers.proofs.DaySets.{windows}
use Rattle.layers.proofs.theorems.window_is_restriction.Goals as goal

pub returns : goal.returns
returns c = windows
