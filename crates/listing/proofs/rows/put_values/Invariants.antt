use Rattle.std.proofs.Common.{take, length}
use Rattle.relation.specs.Stored.{meant}
use Rattle.listing.specs.Text.{values_text}
use Rattle.listing.proofs.rows.put_values.Given as goal

abbrev pub invariant-loop-column : goal.invariant-loop-column
invariant-loop-column g l = g.S.Sink.takes l.initial.sink (values_text (take l.column l.kinds) (take l.column (meant (length l.kinds) l.row).tuple)) l.sink
