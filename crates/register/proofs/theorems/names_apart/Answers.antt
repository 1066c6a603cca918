use Rattle.register.proofs.Stored.{names_apart}
use Rattle.register.proofs.theorems.names_apart.Goals as goal

pub returns : goal.returns
returns c = names_apart
