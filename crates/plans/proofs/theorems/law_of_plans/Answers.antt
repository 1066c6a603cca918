use Rattle.plans.proofs.Laws.{law}
use Rattle.plans.proofs.theorems.law_of_plans.Goals as goal

pub returns : goal.returns
returns c = law
