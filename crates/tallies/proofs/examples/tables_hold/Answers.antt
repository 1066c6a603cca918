use Rattle.tallies.proofs.TablesHold.{hold}
use Rattle.tallies.proofs.examples.tables_hold.Goals as goal

pub returns : goal.returns
returns c = hold
