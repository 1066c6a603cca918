use Rattle.std.proofs.Common.{◌≡◌, None, refl, rules}
use Rattle.layers.specs.Selects.{no_select}
use Rattle.layers.proofs.DaySets.{selects}
use Rattle.layers.proofs.selects.Select.new.Goals as goal

pub returns : goal.returns
returns g c =
    let m = g.S.Source.meaning c.args.source in
    let allowed : no_select m c.args.condition ≡ None = search rules in
    (allowed, (refl, refl, selects m c.args.condition))
