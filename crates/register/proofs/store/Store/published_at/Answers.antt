use Rattle.std.proofs.Common.{false, refl}
use Rattle.register.proofs.Fits.{drop_place, drop_no_lem}
use Rattle.register.proofs.Refused.{ok_of, err_of_none}
use Rattle.register.proofs.store.Store.published_at.Goals as goal

pub returns-in_err-name : goal.returns-in_err-name
returns-in_err-name c =
    let e = err_of_none _ _ c.try_from.result c.in_err-name.ensures.value c.try_from.ensures in
    rw c.from_residual.ensures (drop_no_lem c.args.self.now c.args.name.now false _ e.1.0 refl)

pub returns : goal.returns
returns c =
    let n = ok_of _ _ c.try_from.result c.in_ok-name.name c.in_ok-name.ensures.value c.try_from.ensures in
    drop_place c.args.self.now c.args.name.now c.in_ok-name.name.code c.place.result n.0 n.1 c.place.ensures
