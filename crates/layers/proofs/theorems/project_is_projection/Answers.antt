use Rattle.layers.proofs.DaySets.{projects}
use Rattle.layers.proofs.theorems.project_is_projection.Goals as goal

pub returns : goal.returns
returns c = projects
