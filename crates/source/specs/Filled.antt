-- The rows of a source that are still to come.
use Rattle.std.specs.Prelude.{ℕ, zero, suc, ◌-◌, List, [], ◌++◌, map}
use Rattle.relation.specs.declared.rows.Row.{Row}
use Rattle.relation.specs.Rows.{SpecRow}
use Rattle.relation.specs.Stored.{stored}
use Rattle.source.specs.declared.filled.Filled.{Filled}
use Rattle.source.specs.Meaning.{Meaning, filled?}

-- the rows of the filled ones of n places from k on
abbrev pub rows_between : Meaning → ℕ → ℕ → List SpecRow
rows_between m k zero = []
rows_between m k (suc n) = filled? (m.at k) ++ rows_between m (suc k) n

-- the rows of the filled places from k on
abbrev pub rows_from : Meaning → ℕ → List SpecRow
rows_from m k = rows_between m k (m.count - k)

abbrev pub rows_left : {X : Type 0} → (X → Meaning) → Filled X → List Row
rows_left meaning f = map stored (rows_from (meaning f.source.now) f.place)
