use Rattle.listing.proofs.list.put_header.Goals as goal

pub returns : goal.returns
returns g c =
    let both = g.met.S.Sink.both in
    both _ _ _ _ _ (both _ _ _ _ _ (both _ _ _ _ _ (both _ _ _ _ _ (both _ _ _ _ _ c.put.ensures c.put-2.ensures) c.put_letters.ensures) c.put-3.ensures) c.put_decimal.ensures) c.put-4.ensures
