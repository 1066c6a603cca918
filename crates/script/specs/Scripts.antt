-- The language, and what is wrong with a text that is not in it.
use Rattle.std.specs.Prelude.{◌≡◌, ℕ, ◌+◌, ◌-◌, ◌<◌, ◌≤◌, Bool, true, false, ◌⊎◌, List, [], ◌∷◌, ◌++◌, length, take}
use Rattle.std.specs.List.{AllByRecursion as AllOf}
use Rattle.relation.specs.declared.kinds.Kind.{Kind}
use Rattle.relation.specs.declared.refusals.Reason.{Reason}
use Rattle.relation.specs.declared.refusals.Reason.TheVariants as reason
use Rattle.relation.specs.declared.refusals.Refusal.{Refusal}
use Rattle.words.specs.Lines.{lines}
use Rattle.words.specs.Rest.{texts}
use Rattle.takers.specs.Take.{Text}
use Rattle.words.specs.Words.{words}
use Rattle.grammar.specs.Meaning.{Line, skip, load, row, end, drop, show, query}
use Rattle.grammar.specs.Language.{Writes}
use Rattle.script.specs.Faults.{most_bytes, most_lines}

-- the text of a line writes the line
abbrev pub Says : Text → Line → Type 0
Says t l = Writes (texts (words t)) l

-- each text writes its own line
abbrev pub Written : List Text → List Line → Type 0
Written [] [] = Unit {0}
Written [] (l ∷ ls) = ⊥
Written (t ∷ ts) [] = ⊥
Written (t ∷ ts) (l ∷ ls) = Says t l × Written ts ls

-- only rows stand between load and end, and row and end nowhere else; b says whether a load is open before the lines
abbrev pub Orderly : Bool → List Line → Type 0
Orderly b [] = b ≡ false
Orderly b (skip ∷ ls) = Orderly b ls
Orderly b (load n ks ∷ ls) = (b ≡ false) × Orderly true ls
Orderly b (row f u vs ∷ ls) = (b ≡ true) × Orderly true ls
Orderly b (end ∷ ls) = (b ≡ true) × Orderly false ls
Orderly b (drop n ∷ ls) = (b ≡ false) × Orderly false ls
Orderly b (show n ∷ ls) = (b ≡ false) × Orderly false ls
Orderly b (query n q ∷ ls) = (b ≡ false) × Orderly false ls

-- the texts are the lines of a script
abbrev pub Lawful : List Text → Type 0
Lawful ts = (ls : List Line) × Written ts ls × Orderly false ls

abbrev pub Script : List ℕ → Type 0
Script t = (length t ≤ most_bytes) × (length (lines t) ≤ most_lines) × Lawful (lines t)

-- ---- texts that are no scripts

-- some script, of whatever size, begins with these lines
abbrev pub Begins : List Text → Type 0
Begins ts = (us : List Text) × Lawful (ts ++ us)

-- line n is the first line at which no script begins so
abbrev pub FirstBad : List Text → ℕ → Type 0
FirstBad ts n = (1 ≤ n) × (n ≤ length ts) × Begins (take (n - 1) ts) × (Begins (take n ts) → ⊥)

-- the lines begin a script, and the load at line n is not ended
abbrev pub Unended : List Text → ℕ → Type 0
Unended ts n =
    Begins ts
    × ((before : List Text) × (t : Text) × (after : List Text) × (ts ≡ before ++ t ∷ after) × (n ≡ length before + 1)
    × ((a : Text) × (ks : List Kind) × Says t (load a ks)) × AllOf (λ u. Says u end → ⊥) after)

-- over its size, or a line that is bad
abbrev pub WrongBy : List ℕ → Reason → ℕ → Type 0
WrongBy t reason.ScriptSize n = (n ≡ 0) × ((most_bytes < length t) ⊎ (most_lines < length (lines t)))
WrongBy t reason.Form n = (length t ≤ most_bytes) × (length (lines t) ≤ most_lines) × (FirstBad (lines t) n ⊎ Unended (lines t) n)
WrongBy t reason.Name n = ⊥
WrongBy t reason.Misfit n = ⊥
WrongBy t reason.NoPeriod n = ⊥
WrongBy t reason.OutOfBounds n = ⊥
WrongBy t reason.NoEntry n = ⊥
WrongBy t reason.ShortWork n = ⊥
WrongBy t reason.NoRow n = ⊥
WrongBy t reason.SumOutside n = ⊥
WrongBy t reason.UnusedValue n = ⊥
WrongBy t reason.ShortOutput n = ⊥
WrongBy t reason.TooManyPlaces n = ⊥
WrongBy t reason.SlipMisfit n = ⊥

-- the text is no script, for the reason and at the line that the refusal says
abbrev pub Refused : List ℕ → Refusal → Type 0
Refused t r = (Script t → ⊥) × WrongBy t r.reason r.line × (r.written ≡ 0)
