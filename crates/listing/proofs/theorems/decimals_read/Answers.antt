use Rattle.listing.proofs.Read.{decimals_read}
use Rattle.listing.proofs.theorems.decimals_read.Goals as goal

pub returns : goal.returns
returns c = decimals_read
