-- The kinds of a tally's results.
use Rattle.std.specs.Prelude.{◌≡◌, ℕ, ◌-◌, ◌≤◌, true, List, [], ◌∷◌, ◌++◌, map, length, slice_index_or}
use Rattle.relation.specs.declared.kinds.Kind.{Kind}
use Rattle.relation.specs.declared.kinds.Kind.TheVariants.{Number}
use Rattle.relation.specs.Bounds.{most_work}
use Rattle.relation.specs.Lists.{Member}
use Rattle.relation.specs.Sets.{Tuple, TupleSet}
use Rattle.relation.specs.Rows.{Day}
use Rattle.source.specs.Meaning.{Meaning, Sound, fits, rows_of, day_set}
use Rattle.tallies.specs.declared.rules.Tally.{Tally}
use Rattle.tallies.specs.declared.rules.Tally.TheVariants.{Count, Sum, Min, Max}
use Rattle.tallies.specs.Tallies.{tally}
use Rattle.tally.specs.Tallying.{fitting, Outside}

-- the kind of column c; columns count from 1
abbrev pub kind_at : Meaning → ℕ → Kind
kind_at m c = slice_index_or m.kinds (c - 1) Number

-- the kind of the value
abbrev pub value_kind : Meaning → Tally → Kind
value_kind m Count = Number
value_kind m (Sum c) = Number
value_kind m (Min c) = kind_at m c
value_kind m (Max c) = kind_at m c

-- those of the grouping columns, then that of the value
abbrev pub tallied_kinds : Meaning → Tally → List ℕ → List Kind
tallied_kinds m w by = map (kind_at m) by ++ (value_kind m w ∷ [])

-- the sets that tallying gives, one for each day
abbrev pub tallied : Meaning → Tally → List ℕ → ℕ → TupleSet
tallied m w by d = tally w by (day_set m d)

-- where no sum lies outside kind n, each tallied tuple has these kinds, each value within its bounds
abbrev pub TalliedFit : Type 0
TalliedFit = (m : Meaning) (w : Tally) (by : List ℕ) → Sound m → fitting m w by ≡ true → length (rows_of m) ≤ most_work → (Outside w by (day_set m) → ⊥) → (d : ℕ) → Day d → (t : Tuple) → Member (tallied m w by d) t → fits (tallied_kinds m w by) t ≡ true
