use Rattle.std.proofs.Common.{◌≡◌, ◌+◌, None, sym, refl, ◌∙◌, ap₂}
use Rattle.layers.specs.Checks.{no_pair}
use Rattle.layers.specs.Unions.{no_union}
use Rattle.layers.proofs.DaySets.{unites}
use Rattle.layers.proofs.unions.Union.new.Goals as goal

pub returns : goal.returns
returns g c =
    let a = g.L.Source.meaning c.args.left in
    let b = g.R.Source.meaning c.args.right in
    let allowed : no_union a b ≡ None = sym (ap₂ (λ n m. no_pair a b (n + m)) c.places.ensures c.places-2.ensures) ∙ c.in_ok-check_pair.ensures.0 in
    (allowed, (refl, refl, unites a b))
