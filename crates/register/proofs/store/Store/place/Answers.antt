use Rattle.register.proofs.Fits.{place_none, place_some}
use Rattle.register.proofs.store.Store.place.Goals as goal

pub returns-in_err-i : goal.returns-in_err-i
returns-in_err-i c = rw c.from_residual.ensures (place_none c.args.self.now c.args.name.code c.args.mark c.in_err-i.ensures)

pub returns : goal.returns
returns c =
    let f = c.in_ok-i.ensures in
    place_some c.args.self.now c.args.name.code c.in_ok-i.i c.args.mark c.at.result c.is_marked.result c.then_some.result c.requires f.0 f.1 c.at.ensures c.is_marked.ensures c.then_some.ensures
