use Rattle.listing.proofs.rows.put_line.Goals as goal

pub returns : goal.returns
returns g c =
    let both = g.met.S.Sink.both in
    both _ _ _ _ _ (both _ _ _ _ _ (both _ _ _ _ _ c.put_decimal.ensures c.put.ensures) c.put_decimal-2.ensures) c.put_values.ensures
