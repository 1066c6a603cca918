use Rattle.except.proofs.Days.{day_sets_excepted}
use Rattle.except.proofs.theorems.day_sets_are_excepted.Goals as goal

pub returns : goal.returns
returns c = day_sets_excepted
