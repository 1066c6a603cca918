-- What a stored row means: a tuple with its period, and the way back.
use Rattle.std.specs.Prelude.{ℕ, zero, suc, List, [], ◌∷◌, pos}
use Rattle.relation.specs.declared.rows.Row.{Row}
use Rattle.relation.specs.Bounds.{most_columns}
use Rattle.relation.specs.Rows.{SpecRow}

-- the first n of a list, with d past its end
abbrev pub firsts : {X : Type 0} → ℕ → List X → X → List X
firsts zero xs d = []
firsts (suc n) [] d = d ∷ firsts n [] d
firsts (suc n) (x ∷ xs) d = x ∷ firsts n xs d

-- what a stored row of n columns means
abbrev pub meant : ℕ → Row → SpecRow
meant n w = record { tuple = firsts n w.values (pos 0); first = w.first; end = w.end }

-- how a row is stored: unused values are 0
abbrev pub stored : SpecRow → Row
stored r = record { first = r.first; end = r.end; values = firsts most_columns r.tuple (pos 0) }

abbrev pub blank_row : Row
blank_row = record { first = 0; end = 0; values = firsts most_columns [] (pos 0) }
