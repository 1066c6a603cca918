use Rattle.std.proofs.lemmas.Fmt.{signed_decimal_injective}
use Rattle.listing.proofs.theorems.numbers_differ.Goals as goal

pub returns : goal.returns
returns c = signed_decimal_injective
