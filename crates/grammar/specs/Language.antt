-- The forms of a line, as they are written.
use Rattle.std.specs.Prelude.{◌≡◌, ℕ, ◌≤◌, true, ◌⊎◌, ◌↔◌, List, [], ◌∷◌, ◌++◌, length, pos, Some, codes, Option}
use Rattle.relation.specs.declared.conditions.Term.{Term}
use Rattle.relation.specs.declared.conditions.Term.TheVariants as term
use Rattle.tallies.specs.declared.rules.Tally.{Tally}
use Rattle.tallies.specs.declared.rules.Tally.TheVariants.{Count, Sum, Min, Max}
use Rattle.relation.specs.Bounds.{most_columns}
use Rattle.relation.specs.Values.{is_word, word}
use Rattle.takers.specs.Take.{Text}
use Rattle.takers.specs.Writing.{WritesNumber, Name, WritesValue, WritesColumn, WritesKinds, spelled_sign}
use Rattle.grammar.specs.Meaning.{Operand, whole, part, Query, select, project, union, except, join, tally, Line, skip, load, row, end, drop, show, query}

-- ---- parts

-- each word writes its own
abbrev pub Each : {A : Type 0} → (Text → A → Type 0) → List Text → List A → Type 0
Each R [] [] = Unit {0}
Each R [] (x ∷ xs) = ⊥
Each R (w ∷ ws) [] = ⊥
Each R (w ∷ ws) (x ∷ xs) = R w x × Each R ws xs

-- each two words write a pair of columns
abbrev pub EachPair : List Text → List (ℕ × ℕ) → Type 0
EachPair [] [] = Unit {0}
EachPair [] (p ∷ ps) = ⊥
EachPair (x ∷ []) ps = ⊥
EachPair (x ∷ y ∷ ws) [] = ⊥
EachPair (x ∷ y ∷ ws) (p ∷ ps) = WritesColumn x p.0 × WritesColumn y p.1 × EachPair ws ps

-- a name, perhaps followed by `during FROM UNTIL`
abbrev pub WritesOperand : List Text → Operand → Type 0
WritesOperand ws (whole a) = (ws ≡ a ∷ []) × Name a
WritesOperand ws (part a f u) = (x : Text) × (y : Text) × (ws ≡ a ∷ codes "during" ∷ x ∷ y ∷ []) × Name a × WritesNumber x f × WritesNumber y u

-- a value or a column
abbrev pub WritesTerm : Text → Term → Type 0
WritesTerm w (term.Number z) = WritesNumber w z
WritesTerm w (term.Word z) = (q : Text) × (w ≡ 39 ∷ (q ++ 39 ∷ [])) × (is_word q ≡ true) × (z ≡ pos (word q))
WritesTerm w (term.Column k) = WritesColumn w k

-- nothing, or the word and then one or more of what is wanted
abbrev pub Optional : {A : Type 0} → Text → (List Text → List A → Type 0) → List Text → List A → Type 0
Optional w R ws xs = ((ws ≡ []) × (xs ≡ [])) ⊎ ((vs : List Text) × (ws ≡ w ∷ vs) × (1 ≤ length xs) × R vs xs)

abbrev pub WritesGroups : List Text → List ℕ → Type 0
WritesGroups ws cs = Optional (codes "by") (Each WritesColumn) ws cs

-- ---- queries

-- `of COL`
abbrev pub WritesOf : List Text → ℕ → Type 0
WritesOf ws c = (w : Text) × (ws ≡ codes "of" ∷ w ∷ []) × WritesColumn w c

-- the verb of a tally, and what stands after its operand
abbrev pub WritesTally : Text → List Text → Tally → Type 0
WritesTally v ws Count = (v ≡ codes "count") × (ws ≡ [])
WritesTally v ws (Sum c) = (v ≡ codes "sum") × WritesOf ws c
WritesTally v ws (Min c) = (v ≡ codes "min") × WritesOf ws c
WritesTally v ws (Max c) = (v ≡ codes "max") × WritesOf ws c

-- v is the verb, and the words ws stand after `NEW =`
abbrev pub WritesQuery : Text → List Text → Query → Type 0
WritesQuery v ws (select a q) =
    (v ≡ codes "select")
    × ((xs : List Text) × (c : Text) × (x : Text) × (ws ≡ xs ++ codes "where" ∷ c ∷ spelled_sign q.sign ∷ x ∷ []) × WritesOperand xs a × WritesColumn c q.column × WritesTerm x q.term)
WritesQuery v ws (project a cs) =
    (v ≡ codes "project") × ((xs : List Text) × (ts : List Text) × (ws ≡ xs ++ codes "on" ∷ ts) × WritesOperand xs a × (1 ≤ length cs) × Each WritesColumn ts cs)
WritesQuery v ws (union a b) = (v ≡ codes "union") × ((xs : List Text) × (ys : List Text) × (ws ≡ xs ++ ys) × WritesOperand xs a × WritesOperand ys b)
WritesQuery v ws (except a b) = (v ≡ codes "except") × ((xs : List Text) × (ys : List Text) × (ws ≡ xs ++ ys) × WritesOperand xs a × WritesOperand ys b)
WritesQuery v ws (join a b ps) =
    (v ≡ codes "join")
    × ((xs : List Text) × (ys : List Text) × (ts : List Text) × (ws ≡ xs ++ (ys ++ ts)) × WritesOperand xs a × WritesOperand ys b × Optional (codes "on") EachPair ts ps)
WritesQuery v ws (tally t a cs) =
    (xs : List Text) × (ts : List Text) × (us : List Text) × (ws ≡ xs ++ (ts ++ us)) × WritesOperand xs a × WritesTally v ts t × WritesGroups us cs

-- ---- lines

-- the words ws write the line
abbrev pub Writes : List Text → Line → Type 0
Writes ws skip = (ws ≡ []) ⊎ ((bs : Text) × (vs : List Text) × (ws ≡ (35 ∷ bs) ∷ vs))
Writes ws (load n ks) = (w : Text) × (ws ≡ codes "load" ∷ n ∷ w ∷ []) × Name n × WritesKinds w ks × (length ks ≤ most_columns)
Writes ws (row f u vs) =
    (x : Text) × (y : Text) × (ts : List Text) × (ws ≡ codes "row" ∷ x ∷ y ∷ ts) × WritesNumber x f × WritesNumber y u × (1 ≤ length vs) × Each WritesValue ts vs
Writes ws end = ws ≡ codes "end" ∷ []
Writes ws (drop n) = (ws ≡ codes "drop" ∷ n ∷ []) × Name n
Writes ws (show n) = (ws ≡ codes "show" ∷ n ∷ []) × Name n
Writes ws (query n q) = (v : Text) × (vs : List Text) × (ws ≡ v ∷ n ∷ codes "=" ∷ vs) × Name n × WritesQuery v vs q

-- o is the line that the words write, and none if they write none
abbrev pub Reads : List Text → Option Line → Type 0
Reads ws o = (l : Line) → Writes ws l ↔ (o ≡ Some l)

-- the words of a line write at most one line
abbrev pub OneReading : Type 0
OneReading = (ws : List Text) (l m : Line) → Writes ws l → Writes ws m → l ≡ m
