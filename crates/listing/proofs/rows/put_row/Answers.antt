use Rattle.listing.proofs.rows.put_row.Goals as goal

pub returns : goal.returns
returns g c = g.met.S.Sink.both _ _ _ _ _ c.put_line.ensures c.put.ensures
