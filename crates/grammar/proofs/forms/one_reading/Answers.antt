use Rattle.grammar.proofs.Reading.{one_reading}
use Rattle.grammar.proofs.forms.one_reading.Goals as goal

pub returns : goal.returns
returns c = one_reading
