-- What the rows of a tallied group say.
use Rattle.std.specs.Prelude.{◌≡◌, ℕ, ◌/◌, ◌<◌, List, [], ◌∷◌, ◌++◌, length, ℤ, pos, slice_index_or}
use Rattle.relation.specs.declared.rows.Row.{Row}
use Rattle.relation.specs.Bounds.{most_columns, most_work}
use Rattle.relation.specs.Rows.{Holds}
use Rattle.relation.specs.Operations.{picked}
use Rattle.relation.specs.Stored.{firsts}
use Rattle.collect.specs.Areas.{no_row, bare}
use Rattle.tallies.specs.declared.rules.Tally.{Tally}
use Rattle.cuts.specs.Amounts.{held, amount}

-- a group has at most this many rows: a tally needs three entries of the work area for each
abbrev pub most_rows : ℕ
most_rows = most_work / 3

-- the values of the group's row in the columns `by`, then the amount
abbrev pub tuple_by : Row → List ℕ → ℤ → List ℤ
tuple_by group by amount = firsts most_columns (picked by group.values ++ (amount ∷ [])) (pos 0)

-- some row holds the day
abbrev pub HeldIn : List Row → ℕ → Type 0
HeldIn rows d = (i : ℕ) × ((i < length rows) × Holds (bare (slice_index_or rows i no_row)) d)

-- what a tallied row says of a day: some row of the group holds it, and the values are the group's in the columns `by`, then the amount
-- over the rows that hold it
pub record Gives (m : Tally) (by : List ℕ) (group : List Row) (d : ℕ) (w : Row) : Type 0 where
  pub some : HeldIn group d
  pub values : w.values ≡ tuple_by (slice_index_or group 0 no_row) by (amount m (held group d))
