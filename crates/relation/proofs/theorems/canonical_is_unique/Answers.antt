use Rattle.relation.proofs.Told.{unique}
use Rattle.relation.proofs.theorems.canonical_is_unique.Goals as goal

pub returns : goal.returns
returns c = unique
