use Rattle.register.proofs.Fits.{slip_place}
use Rattle.register.proofs.store.Store.draft_of.Goals as goal

pub returns : goal.returns
returns c = slip_place c.args.number c.args.self.now c.args.slip.now c.place.result c.if-slip-number.false c.place.ensures
