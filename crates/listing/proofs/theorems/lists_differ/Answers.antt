use Rattle.listing.proofs.Apart.{lists_differ}
use Rattle.listing.proofs.theorems.lists_differ.Goals as goal

pub returns : goal.returns
returns c = lists_differ
