-- How words stand in a line, and lines in a text. Each is the contract of a function of src/theorems.rt.
use Rattle.std.specs.Prelude.{◌≡◌, ℕ, ◌+◌, ◌≤◌, ◌⊎◌, ◌↔◌, List, [], ◌∷◌, ◌++◌, length, ◌≢◌}
use Rattle.std.specs.List.{AllByRecursion as AllOf}
use Rattle.words.specs.Words.{Cut, words}
use Rattle.words.specs.Lines.{lines}

-- no word goes on
abbrev pub Apart : List ℕ → Type 0
Apart bs = (bs ≡ []) ⊎ ((on : List ℕ) × (bs ≡ 32 ∷ on))

-- the bytes bs, which begin at place p of a line, are spaces and these words, each at its place; spaces part them and may lead and trail
abbrev pub Parted : ℕ → List ℕ → List Cut → Type 0
Parted p bs [] = AllOf (λ b. b ≡ 32) bs
Parted p bs (c ∷ cs) =
    (gap : List ℕ) × (on : List ℕ) × (bs ≡ gap ++ (c.1 ++ on)) × AllOf (λ b. b ≡ 32) gap × (c.0 ≡ p + length gap)
    × (1 ≤ length c.1) × AllOf (λ b. b ≢ 32) c.1 × Apart on × Parted (c.0 + length c.1) on cs

-- the words of a line are those that stand in it
abbrev pub WordsParted : Type 0
WordsParted = (line : List ℕ) (cs : List Cut) → Parted 0 line cs ↔ (words line ≡ cs)

-- the bytes are these lines: byte 10 ends each, and the last may lack it
abbrev pub Ended : List ℕ → List (List ℕ) → Type 0
Ended bs [] = bs ≡ []
Ended bs (l ∷ ls) =
    AllOf (λ b. b ≢ 10) l × (((on : List ℕ) × (bs ≡ l ++ 10 ∷ on) × Ended on ls) ⊎ ((bs ≡ l) × (1 ≤ length l) × (ls ≡ [])))

-- the lines of a text are those that stand in it
abbrev pub LinesEnded : Type 0
LinesEnded = (text : List ℕ) (ls : List (List ℕ)) → Ended text ls ↔ (lines text ≡ ls)
