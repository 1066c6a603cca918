-- What the result rows of tallied rows say.
use Rattle.std.specs.List.{list_all}
use Rattle.std.specs.Prelude.{◌≡◌, ℕ, ◌<◌, ◌≤◌, Bool, true, ◌&&◌, List, length, filter, slice_index_or}
use Rattle.relation.specs.declared.rows.Row.{Row}
use Rattle.relation.specs.declared.kinds.Kind.TheVariants.{Number}
use Rattle.relation.specs.Bounds.{most_columns}
use Rattle.relation.specs.Sets.{equal}
use Rattle.relation.specs.Rows.{Period, Holds, holds}
use Rattle.relation.specs.Operations.{picked}
use Rattle.relation.specs.Values.{in_kind}
use Rattle.collect.specs.Areas.{no_row, bare}
use Rattle.tallies.specs.declared.rules.Tally.{Tally}
use Rattle.tallies.specs.declared.rules.Tally.TheVariants.{Count, Sum, Min, Max}
use Rattle.cuts.specs.Amounts.{value, amount}
use Rattle.cuts.specs.Groups.{tuple_by}

-- a stored row has the tally's column
abbrev pub Narrow : Tally → Type 0
Narrow Count = Unit {0}
Narrow (Sum c) = c ≤ most_columns
Narrow (Min c) = c ≤ most_columns
Narrow (Max c) = c ≤ most_columns

-- the rows of g's group that hold the day
abbrev pub in_group : List ℕ → Row → ℕ → List Row → List Row
in_group by g d rows = filter (λ w. holds (bare w) d && equal (picked by w.values) (picked by g.values)) rows

-- the row w says of the day what the group of g comes to
abbrev pub Says : Tally → List ℕ → List Row → ℕ → Row → Row → Type 0
Says m by rows d g w = Holds (bare w) d × (w.values ≡ tuple_by g by (amount m (in_group by g d rows)))

-- the rows `made` say, on each day that they hold, what a group of the rows comes to, and each group has its day
pub record Results (m : Tally) (by : List ℕ) (rows made : List Row) : Type 0 where
  pub periods : (k : ℕ) → k < length made → Period (bare (slice_index_or made k no_row))
  pub sound : (k d : ℕ) → k < length made → Holds (bare (slice_index_or made k no_row)) d → (i : ℕ) × ((i < length rows) × (Holds (bare (slice_index_or rows i no_row)) d × Says m by rows d (slice_index_or rows i no_row) (slice_index_or made k no_row)))
  pub whole : (i d : ℕ) → i < length rows → Holds (bare (slice_index_or rows i no_row)) d → (k : ℕ) × ((k < length made) × Says m by rows d (slice_index_or rows i no_row) (slice_index_or made k no_row))

-- what is summed is a number, in each row at an index
abbrev pub sums_fit : Tally → ℕ → List Row → Bool
sums_fit Count at rows = true
sums_fit (Sum c) at rows = list_all (λ w. in_kind Number (value at w)) rows
sums_fit (Min c) at rows = true
sums_fit (Max c) at rows = true
