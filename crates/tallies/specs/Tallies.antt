-- The tally rule for one day, over a set of tuples, and over the rows that hold the day. Columns count from 1.
use Rattle.std.specs.Prelude.{◌≡◌, ℕ, cond, ◌&&◌, ◌↔◌, List, [], ◌∷◌, ◌++◌, map, length, ℤ, pos, ◌+ℤ◌, ◌≤ℤ◌, filter}
use Rattle.std.specs.Int.{int_min, int_max}
use Rattle.tallies.specs.declared.rules.Tally.{Tally}
use Rattle.tallies.specs.declared.rules.Tally.TheVariants.{Count, Sum, Min, Max}
use Rattle.relation.specs.Lists.{Member, Distinct, Pairwise}
use Rattle.relation.specs.Sets.{Tuple, TupleSet, Same, column, equal, has}
use Rattle.relation.specs.Operations.{picked}
use Rattle.relation.specs.Values.{Number}
use Rattle.relation.specs.Rows.{SpecRow, Day, Share, holds}

-- each tuple of the set once
abbrev pub once : TupleSet → List Tuple
once [] = []
once (s ∷ S) = cond (has S s) (once S) (s ∷ once S)

-- the sum of column c
abbrev pub total : ℕ → List Tuple → ℤ
total c [] = pos 0
total c (t ∷ ts) = column c t +ℤ total c ts

-- the best of column c by f, which picks one of two
abbrev pub best : (ℤ → ℤ → ℤ) → ℕ → Tuple → List Tuple → ℤ
best f c t [] = column c t
best f c t (u ∷ us) = f (column c t) (best f c u us)

-- the value over the tuples of a set with the tuple t
abbrev pub value : Tally → Tuple → TupleSet → ℤ
value Count t S = pos (length (once (t ∷ S)))
value (Sum c) t S = total c (once (t ∷ S))
value (Min c) t S = best int_min c t S
value (Max c) t S = best int_max c t S

-- the tuples of S with the grouping values of t
abbrev pub group : List ℕ → TupleSet → Tuple → TupleSet
group by S t = filter (λ u. equal (picked by u) (picked by t)) S

-- one tuple for each group: the grouping values, then the value
abbrev pub tally : Tally → List ℕ → TupleSet → TupleSet
tally w by S = map (λ t. picked by t ++ (value w t (group by S t) ∷ [])) S

-- on some day a group's sum lies outside the kind of numbers
abbrev pub Exceeds : ℕ → List ℕ → (ℕ → TupleSet) → Type 0
Exceeds c by f = (d : ℕ) × (Day d × ((t : Tuple) × (Member (f d) t × (Number (value (Sum c) t (group by (f d) t)) → ⊥))))

-- ---- the same in the words of sets

-- the list has each tuple of the set, and has it once
abbrev pub Enumerates : TupleSet → List Tuple → Type 0
Enumerates S ts = Distinct ts × Same ts S

-- v is the value over the tuples of the set S
abbrev pub Value : Tally → TupleSet → ℤ → Type 0
Value Count S v = (ts : List Tuple) × (Enumerates S ts × (v ≡ pos (length ts)))
Value (Sum c) S v = (ts : List Tuple) × (Enumerates S ts × (v ≡ total c ts))
Value (Min c) S v = ((t : Tuple) × (Member S t × (column c t ≡ v))) × ((t : Tuple) → Member S t → v ≤ℤ column c t)
Value (Max c) S v = ((t : Tuple) × (Member S t × (column c t ≡ v))) × ((t : Tuple) → Member S t → column c t ≤ℤ v)

-- G has the tuples of S with the grouping values of t
abbrev pub Groups : List ℕ → TupleSet → Tuple → TupleSet → Type 0
Groups by S t G = (u : Tuple) → Member G u ↔ (Member S u × (picked by u ≡ picked by t))

-- u is the tuple that some group of S gives
abbrev pub Tallied : Tally → List ℕ → TupleSet → Tuple → Type 0
Tallied w by S u = (t : Tuple) × ((v : ℤ) × ((G : TupleSet) × (Member S t × Groups by S t G × Value w G v × (u ≡ picked by t ++ (v ∷ [])))))

-- ---- over rows

-- no two rows of equal tuple share a day
abbrev pub Disjoint : List SpecRow → Type 0
Disjoint rows = Pairwise (λ r s. r.tuple ≡ s.tuple → Share r s → ⊥) rows

-- the rows that hold the day d and have the grouping values of t
abbrev pub held_in : List ℕ → Tuple → ℕ → List SpecRow → List SpecRow
held_in by t d rows = filter (λ r. holds r d && equal (picked by r.tuple) (picked by t)) rows

abbrev pub row_count : List SpecRow → ℤ
row_count rows = pos (length rows)

abbrev pub row_total : ℕ → List SpecRow → ℤ
row_total c [] = pos 0
row_total c (r ∷ rows) = column c r.tuple +ℤ row_total c rows

-- the best of v and of column c by f
abbrev pub row_best : (ℤ → ℤ → ℤ) → ℕ → ℤ → List SpecRow → ℤ
row_best f c v [] = v
row_best f c v (r ∷ rows) = row_best f c (f v (column c r.tuple)) rows

-- the plain count, sum, least or greatest over the rows, one of which has the tuple t
abbrev pub amount : Tally → Tuple → List SpecRow → ℤ
amount Count t rows = row_count rows
amount (Sum c) t rows = row_total c rows
amount (Min c) t rows = row_best int_min c (column c t) rows
amount (Max c) t rows = row_best int_max c (column c t) rows
