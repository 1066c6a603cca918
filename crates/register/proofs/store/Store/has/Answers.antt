use Rattle.register.proofs.Fits.{has_is}
use Rattle.register.proofs.store.Store.has.Goals as goal

pub returns : goal.returns
returns c = let r = has_is c.args.self.now c.args.name.code c.find.result c.is_some.result c.requires c.find.ensures c.is_some.ensures in record { is = r.0; none = r.1 }
