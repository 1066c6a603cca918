-- The lines of a text: byte 10 ends each, and the last may lack it.
use Rattle.std.specs.Prelude.{ℕ, cond, List, [], ◌∷◌, ◌++◌, ◌==◌}

-- a last line that no byte 10 ends
abbrev pub closed : List ℕ → List (List ℕ)
closed [] = []
closed (b ∷ w) = (b ∷ w) ∷ []

-- the lines that end in bs, where w is what the line there has before bs
abbrev pub lines_from : List ℕ → List ℕ → List (List ℕ)
lines_from w [] = closed w
lines_from w (b ∷ bs) = cond (b == 10) (w ∷ lines_from [] bs) (lines_from (w ++ b ∷ []) bs)

-- the lines of a text
abbrev pub lines : List ℕ → List (List ℕ)
lines bs = lines_from [] bs
