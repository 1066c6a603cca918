use Rattle.std.proofs.Common.{length}
use Rattle.words.specs.Rest.{words_left}
use Rattle.daycheck.proofs.show.ColumnsTextDisplay.fmt.Given as goal

abbrev pub decreases-loop-word : goal.decreases-loop-word
decreases-loop-word g l = length (words_left l.word-iterator)
