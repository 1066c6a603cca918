use Rattle.tallies.proofs.Grouped.{one_value}
use Rattle.tallies.proofs.rules.one_value_of_a_set.Goals as goal

pub returns : goal.returns
returns c = one_value
