use Rattle.relation.proofs.Spelled.{words_inverse}
use Rattle.relation.proofs.values.words_inverse.Goals as goal

pub returns : goal.returns
returns c = words_inverse
