-- The rows of a whole list, line by line.
use Rattle.std.specs.Prelude.{ℕ, cond, List, [], ◌∷◌, ◌++◌, Ok, Err, Result}
use Rattle.relation.specs.declared.kinds.Kind.{Kind}
use Rattle.relation.specs.declared.rows.Row.{Row}
use Rattle.relation.specs.declared.refusals.Reason.{Reason}
use Rattle.words.specs.Words.{words}
use Rattle.words.specs.Rest.{texts}
use Rattle.takers.specs.Take.{is_blank}
use Rattle.lists.specs.ListLines.{row_line}

-- the row that was read, if it was not refused
abbrev pub read : Result Row Reason → List Row
read (Ok row) = row ∷ []
read (Err e) = []

-- the row of a line: none where the line is refused
abbrev pub row_in : List Kind → List ℕ → List Row
row_in ks line = read (row_line ks (texts (words line)))

-- the rows of some lines, of which those that say nothing are passed over
abbrev pub rows_in : List Kind → List (List ℕ) → List Row
rows_in ks [] = []
rows_in ks (l ∷ ls) = cond (is_blank (texts (words l))) (rows_in ks ls) (row_in ks l ++ rows_in ks ls)
