use Rattle.tallies.proofs.Room.{tally_room}
use Rattle.tallies.proofs.rules.two_rows_for_each_row.Goals as goal

pub returns : goal.returns
returns c = tally_room
