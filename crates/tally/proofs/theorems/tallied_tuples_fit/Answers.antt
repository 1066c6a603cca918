use Rattle.tally.proofs.Kinded.{tallied_fit}
use Rattle.tally.proofs.theorems.tallied_tuples_fit.Goals as goal

pub returns : goal.returns
returns c = tallied_fit
