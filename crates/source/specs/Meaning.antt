-- What a source means: its kinds, and its places, each empty or filled with one row.
use Rattle.std.specs.List.{slice_get}
use Rattle.std.specs.Prelude.{◌≡◌, ℕ, zero, suc, ◌<◌, ◌≤◌, max, Bool, true, false, ◌&&◌, List, [], ◌∷◌, ◌++◌, length, ℤ, Some, None, Option}
use Rattle.relation.specs.declared.kinds.Kind.{Kind}
use Rattle.relation.specs.declared.rows.Row.{Row}
use Rattle.relation.specs.Bounds.{most_columns, most_places}
use Rattle.relation.specs.Values.{in_kind}
use Rattle.relation.specs.Sets.{Tuple, TupleSet}
use Rattle.relation.specs.Rows.{SpecRow, Period, on}
use Rattle.relation.specs.Stored.{stored}

-- places count from 0
pub record Meaning : Type 0 where
  pub kinds : List Kind
  pub count : ℕ
  pub at : ℕ → Option SpecRow

-- as many values as kinds, each within its kind's bounds
abbrev pub fits : List Kind → Tuple → Bool
fits [] [] = true
fits [] (z ∷ zs) = false
fits (k ∷ ks) [] = false
fits (k ∷ ks) (z ∷ zs) = in_kind k z && fits ks zs

-- what a row at place k keeps to
pub record SoundAt (kinds : List Kind) (count k : ℕ) (r : SpecRow) : Type 0 where
  pub below : k < count
  pub fitting : fits kinds r.tuple ≡ true
  pub period : Period r

-- the bounds that every source keeps
pub record Sound (m : Meaning) : Type 0 where
  pub some_kinds : 1 ≤ length m.kinds
  pub few_kinds : length m.kinds ≤ most_columns
  pub few : m.count ≤ most_places
  pub filled : (k : ℕ) (r : SpecRow) → m.at k ≡ Some r → SoundAt m.kinds m.count k r

-- ---- the questions

-- the element at a number that counts from 1
abbrev pub cell : {X : Type 0} → List X → ℕ → Option X
cell xs zero = None
cell xs (suc c) = slice_get xs c

-- the kind of column c; columns count from 1
abbrev pub kind_of : Meaning → ℕ → Option Kind
kind_of m c = cell m.kinds c

abbrev pub first? : Option SpecRow → Option ℕ
first? None = None
first? (Some r) = Some r.first

abbrev pub end? : Option SpecRow → Option ℕ
end? None = None
end? (Some r) = Some r.end

abbrev pub value? : Option SpecRow → ℕ → Option ℤ
value? None c = None
value? (Some r) c = cell r.tuple c

abbrev pub row? : Option SpecRow → Option Row
row? None = None
row? (Some r) = Some (stored r)

abbrev pub first_of : Meaning → ℕ → Option ℕ
first_of m k = first? (m.at k)

abbrev pub end_of : Meaning → ℕ → Option ℕ
end_of m k = end? (m.at k)

abbrev pub value_of : Meaning → ℕ → ℕ → Option ℤ
value_of m k c = value? (m.at k) c

abbrev pub row_of : Meaning → ℕ → Option Row
row_of m k = row? (m.at k)

-- the tuple t begins with the values lead
abbrev pub Begins : Tuple → Tuple → Type 0
Begins [] t = Unit {0}
Begins (z ∷ zs) [] = ⊥
Begins (z ∷ zs) (t ∷ ts) = (z ≡ t) × Begins zs ts

-- from k up to r no filled place begins with lead, and r does not pass the last place
pub record NoneLed (m : Meaning) (lead : Tuple) (k r : ℕ) : Type 0 where
  pub on : k ≤ r
  pub up : r ≤ max k m.count
  pub skipped : (p : ℕ) (w : SpecRow) → k ≤ p → p < r → m.at p ≡ Some w → Begins lead w.tuple → ⊥

-- ---- the rows and the day sets

abbrev pub filled? : Option SpecRow → List SpecRow
filled? None = []
filled? (Some r) = r ∷ []

-- the rows of the filled places below n, in the order of the places
abbrev pub rows_below : Meaning → ℕ → List SpecRow
rows_below m zero = []
rows_below m (suc k) = rows_below m k ++ filled? (m.at k)

abbrev pub rows_of : Meaning → List SpecRow
rows_of m = rows_below m m.count

-- the set of the source on day d
abbrev pub day_set : Meaning → ℕ → TupleSet
day_set m d = on (rows_of m) d

-- the tuple t is in some filled place whose row holds day d
pub record On (m : Meaning) (d : ℕ) (t : Tuple) : Type 0 where
  pub place : ℕ
  pub row : SpecRow
  pub there : m.at place ≡ Some row
  pub same : row.tuple ≡ t
  pub from : row.first ≤ d
  pub upto : d < row.end
