-- The theorems on day sets and canonical lists. Each is the contract of a function of src/theorems.rt.
use Rattle.std.specs.Prelude.{◌≡◌, ℕ, ◌<◌, ◌≤◌, ◌↔◌, List, length, take, pos, ◌<ℤ◌, slice_index_or}
use Rattle.std.specs.List.{AllByRecursion as AllOf}
use Rattle.relation.specs.Lists.{Any, Member}
use Rattle.relation.specs.Sets.{Tuple, Below, TupleSet}
use Rattle.relation.specs.Rows.{SpecRow, Period, Holds, on, Agree, Canonical, Lists}

-- of two tuples of one length the first column that differs decides
abbrev pub FirstDifference : Type 0
FirstDifference = (s t : Tuple) → length s ≡ length t → Below s t ↔ ((k : ℕ) × ((k < length s) × (take k s ≡ take k t) × (slice_index_or s k (pos 0) <ℤ slice_index_or t k (pos 0))))

-- a tuple is in the day set of the rows exactly when a row with that tuple holds the day
abbrev pub DaySet : Type 0
DaySet = (rows : List SpecRow) (d : ℕ) (t : Tuple) → Member (on rows d) t ↔ Any (λ r. (r.tuple ≡ t) × Holds r d) rows

-- two canonical lists have the same sets on every day exactly when they are equal
abbrev pub Unique : Type 0
Unique = (l m : List SpecRow) → Canonical l → Canonical m → (Agree l m ↔ (l ≡ m))

-- the sets of all days have at most one canonical list
abbrev pub OneList : Type 0
OneList = (l m : List SpecRow) (f : ℕ → TupleSet) → Lists l f → Lists m f → l ≡ m

-- no list of rows with the sets of a canonical list is shorter than that
abbrev pub Fewest : Type 0
Fewest = (l m : List SpecRow) → Canonical l → AllOf Period m → Agree l m → length l ≤ length m
