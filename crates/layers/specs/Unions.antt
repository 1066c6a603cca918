-- What a union means: the places of one source, then those of another.
use Rattle.std.specs.Prelude.{ℕ, ◌+◌, ◌-◌, cond, Option, nat_lt}
use Rattle.relation.specs.declared.refusals.Reason.{Reason}
use Rattle.relation.specs.Sets.{Same}
use Rattle.relation.specs.Operations.{union}
use Rattle.source.specs.Meaning.{Meaning, day_set}
use Rattle.layers.specs.Checks.{no_pair}

abbrev pub united : Meaning → Meaning → Meaning
united a b = record { kinds = a.kinds; count = a.count + b.count; at = λ k. cond (nat_lt k a.count) (a.at k) (b.at (k - a.count)) }

-- the reason against a union, the first that applies
abbrev pub no_union : Meaning → Meaning → Option Reason
no_union a b = no_pair a b (a.count + b.count)

-- on every day, the tuples of both
abbrev pub Unites : Meaning → Meaning → Type 0
Unites a b = (d : ℕ) → Same (day_set (united a b) d) (union (day_set a d) (day_set b d))
