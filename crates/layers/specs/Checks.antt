-- When a layer over two sources is refused.
use Rattle.std.specs.Prelude.{ℕ, cond, not, Some, None, Option, nat_le}
use Rattle.relation.specs.declared.refusals.Reason.{Reason}
use Rattle.relation.specs.declared.refusals.Reason.TheVariants.{Misfit, TooManyPlaces}
use Rattle.relation.specs.Bounds.{most_places}
use Rattle.source.specs.Meaning.{Meaning}
use Rattle.layers.specs.Alike.{same_kinds}

-- the reason against so many places
abbrev pub too_many : ℕ → Option Reason
too_many places = cond (not (nat_le places most_places)) (Some TooManyPlaces) None

-- the reason against a layer of so many places over two sources of the same kinds, the first that applies
abbrev pub no_pair : Meaning → Meaning → ℕ → Option Reason
no_pair a b places = cond (not (same_kinds a.kinds b.kinds)) (Some Misfit) (too_many places)
