use Rattle.relation.proofs.KindsTold.{kinds_told}
use Rattle.relation.proofs.values.kinds_told.Goals as goal

pub returns : goal.returns
returns c = kinds_told
