use Rattle.words.proofs.Gaps.{words_parted}
use Rattle.words.proofs.theorems.words_parted.Goals as goal

pub returns : goal.returns
returns c = words_parted
