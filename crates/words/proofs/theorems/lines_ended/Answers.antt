use Rattle.words.proofs.Gaps.{lines_ended}
use Rattle.words.proofs.theorems.lines_ended.Goals as goal

pub returns : goal.returns
returns c = lines_ended
