use Rattle.register.proofs.Days.{any_history}
use Rattle.register.proofs.theorems.any_history.Goals as goal

pub returns : goal.returns
returns c = any_history
