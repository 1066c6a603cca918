use Rattle.std.proofs.Common.{map, take, length}
use Rattle.std.specs.List.{flat_map}
use Rattle.relation.specs.Stored.{meant}
use Rattle.listing.specs.Text.{row_text}
use Rattle.listing.proofs.list.put_rows.Given as goal

abbrev pub invariant-loop-row : goal.invariant-loop-row
invariant-loop-row g l = g.S.Sink.takes l.initial.sink (flat_map (row_text l.kinds) (map (meant (length l.kinds)) (take l.row-index l.rows))) l.sink
