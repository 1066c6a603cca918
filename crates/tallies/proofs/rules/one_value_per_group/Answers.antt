use Rattle.tallies.proofs.Grouped.{one_per_group}
use Rattle.tallies.proofs.rules.one_value_per_group.Goals as goal

pub returns : goal.returns
returns c = one_per_group
