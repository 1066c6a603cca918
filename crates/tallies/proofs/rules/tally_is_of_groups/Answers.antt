use Rattle.tallies.proofs.Grouped.{tally_rule}
use Rattle.tallies.proofs.rules.tally_is_of_groups.Goals as goal

pub returns : goal.returns
returns c = tally_rule
