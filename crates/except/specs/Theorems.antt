-- The theorem on the day sets of an except.
use Rattle.std.specs.Prelude.{ℕ, ◌+◌, ◌*◌, ◌≤◌}
use Rattle.relation.specs.Bounds.{most_places}
use Rattle.relation.specs.Sets.{Same}
use Rattle.relation.specs.Operations.{except}
use Rattle.source.specs.Meaning.{Meaning, Sound, day_set}
use Rattle.except.specs.Excepts.{excepted}

-- on every day a tuple is in the except of a and b exactly when it is in a and not in b
abbrev pub Excepts : Meaning → Meaning → Type 0
Excepts a b = (d : ℕ) → Same (day_set (excepted a b) d) (except (day_set a d) (day_set b d))

abbrev pub DaySetsExcepted : Type 0
DaySetsExcepted = (a b : Meaning) → Sound a → Sound b → a.count * (b.count + 1) ≤ most_places → Excepts a b
