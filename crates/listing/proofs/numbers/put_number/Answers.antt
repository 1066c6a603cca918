use Rattle.std.proofs.Common.{◌≡◌, ◌++◌, nat_abs, decimal, ap, ◌∙◌, ap₂, w64, to_z, of_z}
use Rattle.std.proofs.lemmas.Int.{to_z-of_z}
use Rattle.listing.specs.Text.{sign}
use Rattle.listing.proofs.Parts.{taken_as, signed_parts}
use Rattle.listing.proofs.numbers.put_number.Goals as goal

pub returns : goal.returns
returns g c =
    let z = c.args.z in
    let same : to_z w64 (of_z w64 z) ≡ z = to_z-of_z w64 z c.ranges.z in
    taken_as g.S.Sink.takes (g.met.S.Sink.both _ _ _ _ _ c.put_sign.ensures c.put_decimal.ensures)
    (ap₂ (λ y n. sign y ++ decimal n) same (c.unsigned_abs.ensures.value ∙ ap nat_abs same) ∙ signed_parts z)
