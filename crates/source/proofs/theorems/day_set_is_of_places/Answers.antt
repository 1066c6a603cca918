use Rattle.source.proofs.Places.{day_set_of_places}
use Rattle.source.proofs.theorems.day_set_is_of_places.Goals as goal

pub returns : goal.returns
returns c = day_set_of_places
