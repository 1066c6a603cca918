-- What the lines that the reader answers say.
use Rattle.std.specs.Prelude.{◌≡◌, ℕ, Bool, List, [], ◌∷◌, ℤ, Some, None, Option}
use Rattle.relation.specs.Few.{items}
use Rattle.words.specs.declared.reader.Words.{Words}
use Rattle.words.specs.Rest.{rest}
use Rattle.takers.specs.Take.{Text, Val, ◌then◌, column_at, value_of}
use Rattle.grammar.specs.declared.lines.Operand.{Operand}
use Rattle.grammar.specs.declared.lines.Query.{Query}
use Rattle.grammar.specs.declared.lines.Query.TheVariants as query
use Rattle.grammar.specs.declared.lines.Line.{Line}
use Rattle.grammar.specs.declared.lines.Line.TheVariants as line
use Rattle.grammar.specs.Meaning as meaning

-- ---- the tails of a line

-- one more, if it was read
abbrev pub also : {A : Type 0} → Option A → List A → List A
also None xs = xs
also (Some x) xs = x ∷ xs

-- what is read of each word
abbrev pub gathered : {A : Type 0} → (Text → Option A) → List Text → List A
gathered f [] = []
gathered f (w ∷ ws) = also (f w) (gathered f ws)

-- the columns that two words are
abbrev pub pair_at : Text → Text → Option (ℕ × ℕ)
pair_at x y = column_at x then (λ l. column_at y then (λ r. Some (l, r)))

abbrev pub values_in : List Text → List Val
values_in ws = gathered value_of ws

abbrev pub columns_in : List Text → List ℕ
columns_in ws = gathered column_at ws

abbrev pub pairs_in : List Text → List (ℕ × ℕ)
pairs_in [] = []
pairs_in (x ∷ []) = []
pairs_in (x ∷ y ∷ ws) = also (pair_at x y) (pairs_in ws)

-- a test of a line's words answers as h does of their bytes
abbrev pub Tells : (Words → Bool → Type 0) → (List Text → Bool) → Type 0
Tells answers h = (w : Words) (b : Bool) → answers w b → b ≡ h (rest w)

-- ---- lines

-- a relation, in a window if there is one
abbrev pub windowed : Text → Option (ℤ × ℤ) → meaning.Operand
windowed a None = meaning.whole a
windowed a (Some d) = meaning.part a d.0 d.1

abbrev pub says_operand : Operand → meaning.Operand
says_operand o = windowed o.name.now o.during

abbrev pub says_query : Query → meaning.Query
says_query (query.Select a q) = meaning.select (says_operand a) q
says_query (query.Project a ws) = meaning.project (says_operand a) (columns_in (rest ws))
says_query (query.Union a b) = meaning.union (says_operand a) (says_operand b)
says_query (query.Except a b) = meaning.except (says_operand a) (says_operand b)
says_query (query.Join a b ws) = meaning.join (says_operand a) (says_operand b) (pairs_in (rest ws))
says_query (query.Tally t a ws) = meaning.tally t (says_operand a) (columns_in (rest ws))

abbrev pub says : Line → meaning.Line
says line.Skip = meaning.skip
says (line.Load n k) = meaning.load n.now (items k)
says (line.Row p) = meaning.row p.from p.until (values_in (rest p.values))
says line.End = meaning.end
says (line.Drop n) = meaning.drop n.now
says (line.Show n) = meaning.show n.now
says (line.Query n q) = meaning.query n.now (says_query q)
