-- The theorems on sources.
use Rattle.std.specs.Prelude.{◌≡◌, ℕ, ◌↔◌, List, None}
use Rattle.relation.specs.declared.kinds.Kind.{Kind}
use Rattle.relation.specs.declared.rows.Row.{Row}
use Rattle.relation.specs.Lists.{Member}
use Rattle.relation.specs.Sets.{Tuple}
use Rattle.source.specs.Meaning.{Meaning, Sound, On, day_set}
use Rattle.source.specs.Tables.{table, no_part}

-- a tuple is in a source's set on a day exactly when a filled place has it on that day
abbrev pub DaySetOfPlaces : Type 0
DaySetOfPlaces = (m : Meaning) → Sound m → (d : ℕ) (t : Tuple) → Member (day_set m d) t ↔ On m d t

-- where a table of a part of the rows keeps the bounds of every source, there is no reason against it
abbrev pub NoReason : Type 0
NoReason = (rows : List Row) (start len : ℕ) (ks : List Kind) → Sound (table rows start len ks) → no_part rows start len ks ≡ None
