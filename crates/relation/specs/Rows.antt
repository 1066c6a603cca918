-- Days, rows and their day sets; coalesced rows and listing order.
use Rattle.std.specs.Prelude.{◌≡◌, ℕ, ◌<◌, ◌≤◌, Bool, cond, ◌&&◌, ◌⊎◌, List, [], ◌∷◌, nat_le, nat_lt}
use Rattle.std.specs.List.{AllByRecursion as AllOf}
use Rattle.relation.specs.Bounds.{end_of_days}
use Rattle.relation.specs.Lists.{Pairwise}
use Rattle.relation.specs.Sets.{Tuple, Below, TupleSet, Same}

-- a tuple with the days from first up to, and without, end
pub record SpecRow : Type 0 where
  pub tuple : Tuple
  pub first : ℕ
  pub end : ℕ

abbrev pub Day : ℕ → Type 0
Day d = d < end_of_days

abbrev pub Period : SpecRow → Type 0
Period r = (r.first < r.end) × (r.end ≤ end_of_days)

-- the same as a test on the first day and the end
abbrev pub is_period : ℕ → ℕ → Bool
is_period first end = nat_lt first end && nat_le end end_of_days

abbrev pub Holds : SpecRow → ℕ → Type 0
Holds r d = (r.first ≤ d) × (d < r.end)

abbrev pub holds : SpecRow → ℕ → Bool
holds r d = nat_le r.first d && nat_lt d r.end

-- the day set of the rows on day d
abbrev pub on : List SpecRow → ℕ → TupleSet
on [] d = []
on (r ∷ rows) d = cond (holds r d) (r.tuple ∷ on rows d) (on rows d)

-- the day sets are the same on every day
abbrev pub Agree : List SpecRow → List SpecRow → Type 0
Agree l m = (d : ℕ) → Day d → Same (on l d) (on m d)

abbrev pub Share : SpecRow → SpecRow → Type 0
Share r s = (d : ℕ) × (Holds r d × Holds s d)

abbrev pub Meet : SpecRow → SpecRow → Type 0
Meet r s = (r.end ≡ s.first) ⊎ (s.end ≡ r.first)

-- no two rows of equal tuple share a day or meet
abbrev pub Coalesced : List SpecRow → Type 0
Coalesced rows = Pairwise (λ r s. r.tuple ≡ s.tuple → Share r s ⊎ Meet r s → ⊥) rows

-- tuples rising, then first days rising
abbrev pub Ahead : SpecRow → SpecRow → Type 0
Ahead r s = Below r.tuple s.tuple ⊎ ((r.tuple ≡ s.tuple) × (r.first < s.first))

abbrev pub Listed : List SpecRow → Type 0
Listed rows = Pairwise Ahead rows

pub record Canonical (rows : List SpecRow) : Type 0 where
  pub periods : AllOf Period rows
  pub coalesced : Coalesced rows
  pub listed : Listed rows

-- the rows are the canonical list of the sets f, one for each day
pub record Lists (rows : List SpecRow) (f : ℕ → TupleSet) : Type 0 where
  pub canonical : Canonical rows
  pub sets : (d : ℕ) → Day d → Same (on rows d) (f d)
