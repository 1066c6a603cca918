-- The rows that hold a day, and the amount over them.
use Rattle.std.specs.Prelude.{ℕ, List, [], ◌∷◌, map, length, ℤ, pos, ◌+ℤ◌, ◌≤ℤ◌, fold, filter, slice_index_or}
use Rattle.std.specs.Int.{int_min, int_max}
use Rattle.relation.specs.declared.rows.Row.{Row}
use Rattle.relation.specs.Bounds.{largest_number, smallest_number}
use Rattle.relation.specs.Rows.{holds}
use Rattle.relation.specs.Sets.{column}
use Rattle.collect.specs.Areas.{bare}
use Rattle.tallies.specs.declared.rules.Tally.{Tally}
use Rattle.tallies.specs.declared.rules.Tally.TheVariants.{Count, Sum, Min, Max}

-- the value of a row at an index, from 0
abbrev pub value : ℕ → Row → ℤ
value i w = slice_index_or w.values i (pos 0)

-- its value in column c
abbrev pub valued : ℕ → Row → ℤ
valued c w = column c w.values

-- the rows that hold the day
abbrev pub held : List Row → ℕ → List Row
held rows d = filter (λ w. holds (bare w) d) rows

abbrev pub total : List ℤ → ℤ
total [] = pos 0
total (z ∷ zs) = z +ℤ total zs

-- the best of some values by f, which picks one of two; 0 of none
abbrev pub best : (ℤ → ℤ → ℤ) → List ℤ → ℤ
best f [] = pos 0
best f (z ∷ zs) = fold f z zs

-- the amount over some rows
abbrev pub amount : Tally → List Row → ℤ
amount Count rows = pos (length rows)
amount (Sum c) rows = total (map (valued c) rows)
amount (Min c) rows = best int_min (map (valued c) rows)
amount (Max c) rows = best int_max (map (valued c) rows)

-- what is summed is a number
abbrev pub Within : Tally → Row → Type 0
Within Count w = Unit {0}
Within (Sum c) w = (smallest_number ≤ℤ valued c w) × (valued c w ≤ℤ largest_number)
Within (Min c) w = Unit {0}
Within (Max c) w = Unit {0}
