-- A group by its first few values is one by the columns from 1 on.
use Rattle.std.specs.Prelude.{◌≡◌, ℕ, cond, ◌&&◌, List, [], ◌∷◌, ◌++◌, ℤ, pos, slice_index_or, int_lt, nat_lt}
use Rattle.std.specs.List.{range_with_len}
use Rattle.relation.specs.declared.rows.Row.{Row}
use Rattle.relation.specs.Bounds.{most_columns}
use Rattle.relation.specs.Stored.{firsts}
use Rattle.collect.specs.Areas.{no_row}
use Rattle.tallies.specs.declared.rules.Tally.{Tally}
use Rattle.cuts.specs.Amounts.{value, held, amount}
use Rattle.cuts.specs.Groups.{tuple_by, HeldIn, Gives}
use Rattle.cuts.specs.Stretches.{stretches_by}

-- the first few values of the group's row, then the amount
abbrev pub tuple_of : Row → ℕ → ℤ → List ℤ
tuple_of group width amount = firsts most_columns (firsts width group.values (pos 0) ++ (amount ∷ [])) (pos 0)

-- from one cut to the next, with these values
abbrev pub stretch : Row → ℕ → Row → Row → Row
stretch group width c next = record { first = c.first; end = next.first; values = tuple_of group width (value 1 c) }

-- the stretches that have a day and that some row holds
abbrev pub stretches_of : Row → ℕ → List Row → List Row
stretches_of group width [] = []
stretches_of group width (c ∷ []) = []
stretches_of group width (c ∷ next ∷ cs) = cond (int_lt (pos 0) (value 0 c) && nat_lt c.first next.first) (stretch group width c next ∷ stretches_of group width (next ∷ cs)) (stretches_of group width (next ∷ cs))

-- the columns from 1 to the width
abbrev pub first_columns : ℕ → List ℕ
first_columns width = range_with_len 1 width

-- in these columns stand the first few values
abbrev pub TuplesFirst : Type 0
TuplesFirst = (group : Row) (width : ℕ) (amount : ℤ) → tuple_by group (first_columns width) amount ≡ tuple_of group width amount

-- so the stretches are the same
abbrev pub StretchesFirst : Type 0
StretchesFirst = (group : Row) (width : ℕ) (cs : List Row) → stretches_by group (first_columns width) cs ≡ stretches_of group width cs

-- what a tallied row says of a day where the group's values are the first few
pub record GivesFirst (m : Tally) (width : ℕ) (group : List Row) (d : ℕ) (w : Row) : Type 0 where
  pub some : HeldIn group d
  pub values : w.values ≡ tuple_of (slice_index_or group 0 no_row) width (amount m (held group d))

-- so a group tallied by these columns is tallied by its first few values
abbrev pub RowsFirst : Type 0
RowsFirst = (m : Tally) (width : ℕ) (group : List Row) (d : ℕ) (w : Row) → Gives m (first_columns width) group d w → GivesFirst m width group d w
