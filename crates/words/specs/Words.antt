-- The words of a line.
use Rattle.std.specs.Prelude.{ℕ, ◌+◌, ◌-◌, cond, List, [], ◌∷◌, ◌++◌, length, drop, ◌==◌}

-- a word: the place of its first byte, and its bytes
abbrev pub Cut : Type 0
Cut = ℕ × List ℕ

-- the word w that ends before place p, if w has a byte, and then the words ws
abbrev pub ended : ℕ → List ℕ → List Cut → List Cut
ended p [] ws = ws
ended p (b ∷ w) ws = (p - length (b ∷ w), b ∷ w) ∷ ws

-- the words that end in bs, where bs begins at place p and w is what the word there has before p
abbrev pub words_from : ℕ → List ℕ → List ℕ → List Cut
words_from p w [] = ended p w []
words_from p w (b ∷ bs) = cond (b == 32) (ended p w (words_from (p + 1) [] bs)) (words_from (p + 1) (w ++ b ∷ []) bs)

-- the words of a line
abbrev pub words : List ℕ → List Cut
words bs = words_from 0 [] bs

-- the words of a line from a place on that is in no word
abbrev pub left : List ℕ → ℕ → List Cut
left bs p = words_from p [] (drop p bs)
