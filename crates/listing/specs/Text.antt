-- A relation as text: a line NAME KINDS ROWS, then a line FROM UNTIL VALUE .. for each row.
use Rattle.std.specs.Prelude.{◌≡◌, ℕ, ◌<◌, ◌≤◌, List, [], ◌∷◌, ◌++◌, map, length, drop, ℤ, pos, negsuc, Some, None, Ok, Err, decimal, Option, Result}
use Rattle.std.specs.List.{flat_map}
use Rattle.std.specs.Fmt.{signed_decimal}
use Rattle.relation.specs.declared.kinds.Kind.{Kind}
use Rattle.relation.specs.declared.kinds.Kind.TheVariants.{Number, Word}
use Rattle.relation.specs.declared.refusals.Refusal.{Refusal}
use Rattle.relation.specs.declared.refusals.Reason.TheVariants.{ShortOutput}
use Rattle.relation.specs.Refusals.{plain}
use Rattle.relation.specs.Rows.{SpecRow}
use Rattle.relation.specs.Values.{word_text}

abbrev pub line_end : ℕ
line_end = 10

abbrev pub space : ℕ
space = 32

abbrev pub quote : ℕ
quote = 39

-- the minus sign of a number below 0
abbrev pub sign : ℤ → List ℕ
sign (pos n) = []
sign (negsuc n) = 45 ∷ []

-- ---- the header

-- n for numbers, w for words
abbrev pub letter : Kind → ℕ
letter Number = 110
letter Word = 119

-- NAME KINDS ROWS
abbrev pub header_text : List ℕ → List Kind → ℕ → List ℕ
header_text name kinds count = name ++ (space ∷ []) ++ map letter kinds ++ (space ∷ []) ++ decimal count ++ (line_end ∷ [])

-- ---- a row

-- the bytes of a word, if there is one
abbrev pub spelled : Option (List ℕ) → List ℕ
spelled None = []
spelled (Some bs) = bs

-- a number in plain decimal; a word in single quotes
abbrev pub value_text : Kind → ℤ → List ℕ
value_text Number z = signed_decimal z
value_text Word z = (quote ∷ []) ++ spelled (word_text z) ++ (quote ∷ [])

-- a value for each kind, a space before each
abbrev pub values_text : List Kind → List ℤ → List ℕ
values_text [] zs = []
values_text (k ∷ ks) [] = []
values_text (k ∷ ks) (z ∷ zs) = (space ∷ value_text k z) ++ values_text ks zs

-- FROM UNTIL VALUE .., without the end of the line
abbrev pub line_text : List Kind → SpecRow → List ℕ
line_text kinds row = decimal row.first ++ (space ∷ []) ++ decimal row.end ++ values_text kinds row.tuple

-- the line of a row
abbrev pub row_text : List Kind → SpecRow → List ℕ
row_text kinds row = line_text kinds row ++ (line_end ∷ [])

-- ---- the whole

abbrev pub list_text : List ℕ → List Kind → List SpecRow → List ℕ
list_text name kinds rows = header_text name kinds (length rows) ++ flat_map (row_text kinds) rows

-- the text stands at the start of the output, which is else as it was, and its length is answered;
-- or the text is longer than the output, and nothing is written
abbrev pub Writes : List ℕ → Result ℕ Refusal → List ℕ → List ℕ → Type 0
Writes text (Ok n) before after = (n ≡ length text) × (length text ≤ length before) × (after ≡ text ++ drop (length text) before)
Writes text (Err e) before after = (e ≡ plain ShortOutput) × (length before < length text) × (after ≡ before)
