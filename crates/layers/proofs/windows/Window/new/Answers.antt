use Rattle.std.proofs.Common.{◌≡◌, None, refl, rules}
use Rattle.layers.specs.Windows.{no_window}
use Rattle.layers.proofs.DaySets.{windows}
use Rattle.layers.proofs.windows.Window.new.Goals as goal

pub returns : goal.returns
returns g c =
    let allowed : no_window c.args.days.first c.args.days.end ≡ None = search rules in
    (allowed, (refl, refl, windows (g.S.Source.meaning c.args.source) c.args.days.first c.args.days.end))
