-- The theorems on tallies. Each is the contract of a function of src/tallies.rt.
use Rattle.std.specs.Prelude.{◌≡◌, ℕ, ◌*◌, ◌≤◌, ◌↔◌, List, length, take, ℤ}
use Rattle.tallies.specs.declared.rules.Tally.{Tally}
use Rattle.relation.specs.Lists.{Member}
use Rattle.relation.specs.Sets.{Tuple, TupleSet, Same}
use Rattle.relation.specs.Rows.{SpecRow, on, Lists}
use Rattle.tallies.specs.Tallies.{Value, Tallied, Disjoint, value, group, tally, held_in, amount}

-- the value over a set is one value
abbrev pub OneValue : Type 0
OneValue = (w : Tally) (S : TupleSet) (v v' : ℤ) → Value w S v → Value w S v' → v ≡ v'

-- the tally has just the tuples that the groups give
abbrev pub TallyRule : Type 0
TallyRule = (w : Tally) (by : List ℕ) (S : TupleSet) (u : Tuple) → Member (tally w by S) u ↔ Tallied w by S u

-- a tally has one tuple for each group
abbrev pub OnePerGroup : Type 0
OnePerGroup = (w : Tally) (by : List ℕ) (S : TupleSet) (u v : Tuple) → Member (tally w by S) u → Member (tally w by S) v → take (length by) u ≡ take (length by) v → u ≡ v

-- a tally depends only on what is in the set
abbrev pub SetTallied : Type 0
SetTallied = (w : Tally) (by : List ℕ) (S U : TupleSet) → Same S U → Same (tally w by S) (tally w by U)

-- the canonical list of a tally has at most two rows for each row
abbrev pub TallyRoom : Type 0
TallyRoom = (w : Tally) (by : List ℕ) (rows l : List SpecRow) → Lists l (λ d. tally w by (on rows d)) → length l ≤ 2 * length rows

-- where no two rows of equal tuple share a day, the value over the group of a tuple of the day is that over the group's rows that hold the day
abbrev pub RowsTallied : Type 0
RowsTallied = (w : Tally) (by : List ℕ) (rows : List SpecRow) (d : ℕ) (t : Tuple) → Disjoint rows → Member (on rows d) t → value w t (group by (on rows d) t) ≡ amount w t (held_in by t d rows)
