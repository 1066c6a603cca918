use Rattle.std.proofs.Common.{sym, ap₂, w64}
use Rattle.std.proofs.lemmas.Int.{to_z-of_z}
use Rattle.listing.specs.Text.{value_text}
use Rattle.listing.proofs.Parts.{taken_as}
use Rattle.listing.proofs.rows.put_value.Goals as goal

pub returns-in-Word : goal.returns-in-Word
returns-in-Word g c =
    let both = g.met.S.Sink.both in
    taken_as g.S.Sink.takes (both _ _ _ _ _ (both _ _ _ _ _ c.put.ensures c.put_spelling.ensures) c.put-in-Word.ensures)
    (ap₂ value_text (sym c.in-Word.is) (to_z-of_z w64 c.args.value c.ranges.value))
