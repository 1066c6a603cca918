use Rattle.tallies.proofs.Grouped.{set_tallied}
use Rattle.tallies.proofs.rules.tally_depends_on_the_set.Goals as goal

pub returns : goal.returns
returns c = set_tallied
