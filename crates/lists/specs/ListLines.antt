-- What the lines of a list say, and for which reason a line is refused.
use Rattle.std.specs.Prelude.{Bool, true, cond, ◌&&◌, List, [], ◌∷◌, length, ℤ, pos, Some, None, Ok, Err, Option, Result, int_le, int_lt, nat_le, unsigned_abs}
use Rattle.std.specs.List.{list_all}
use Rattle.relation.specs.declared.kinds.Kind.{Kind}
use Rattle.relation.specs.declared.kinds.Kind.TheVariants as kind
use Rattle.relation.specs.declared.rows.Row.{Row}
use Rattle.relation.specs.declared.refusals.Reason.{Reason}
use Rattle.relation.specs.declared.refusals.Reason.TheVariants as reason
use Rattle.relation.specs.Few.{items}
use Rattle.relation.specs.Bounds.{most_columns, end_of_days, smallest_number, largest_number}
use Rattle.relation.specs.Stored.{firsts, stored}
use Rattle.relation.specs.Values.{word_value}
use Rattle.words.specs.Name.{is_name}
use Rattle.words.specs.Kinds.{is_kinds, kinds_of}
use Rattle.takers.specs.Take.{Text, ◌then◌, Val, number_val, word_val, value_of, take_value, RowText, take_row}
use Rattle.lists.specs.declared.header.Header.{Header}

-- go on with what was read, or refuse for the reason
abbrev pub or_else : {A B : Type 0} → Reason → Option A → (A → Result B Reason) → Result B Reason
or_else e None f = Err e
or_else e (Some x) f = f x

-- ---- the header

abbrev pub says_header : Header → Text × List Kind
says_header h = (h.name.now, items h.kinds)

abbrev pub two_words : List Text → Option (Text × Text)
two_words [] = None
two_words (n ∷ []) = None
two_words (n ∷ k ∷ []) = Some (n, k)
two_words (n ∷ k ∷ w ∷ ws) = None

-- what two words say
abbrev pub header_of : Text × Text → Result (Text × List Kind) Reason
header_of p =
    cond (is_kinds p.1)
    (cond (is_name p.0) (or_else reason.Misfit (kinds_of p.1) (λ ks. Ok (p.0, ks))) (Err reason.Name))
    (Err reason.Form)

-- NAME KINDS
abbrev pub header_line : List Text → Result (Text × List Kind) Reason
header_line ws = or_else reason.Form (two_words ws) header_of

-- ---- the values of a row

-- the number that a value of the kind is held as
abbrev pub as_kind : Kind → Val → Option ℤ
as_kind kind.Number (number_val z) = Some z
as_kind kind.Number (word_val q) = None
as_kind kind.Word (number_val z) = None
as_kind kind.Word (word_val q) = word_value q

abbrev pub take_as : Kind → List Text → Option (ℤ × List Text)
take_as k ws = take_value ws then (λ v. as_kind k v.0 then (λ z. Some (z, v.1)))

-- a value for each kind, and no more
abbrev pub fits : List Kind → List Text → Option (List ℤ)
fits [] [] = Some []
fits [] (w ∷ ws) = None
fits (k ∷ ks) ws = take_as k ws then (λ r. fits ks r.1 then (λ zs. Some (r.0 ∷ zs)))

-- the same, of at most six kinds
abbrev pub fitted : List Kind → List Text → Option (List ℤ)
fitted ks ws = cond (nat_le (length ks) most_columns) (fits ks ws) None

-- as the values of a row are stored
abbrev pub padded : List ℤ → List ℤ
padded zs = firsts most_columns zs (pos 0)

-- no number outside the kind of numbers
abbrev pub bounded : Option Val → Bool
bounded None = true
bounded (Some (number_val z)) = int_le smallest_number z && int_le z largest_number
bounded (Some (word_val q)) = true

abbrev pub bounded_word : Text → Bool
bounded_word w = bounded (value_of w)

abbrev pub all_bounded : List Text → Bool
all_bounded ws = list_all bounded_word ws

-- ---- a row's line

abbrev pub is_period : ℤ → ℤ → Bool
is_period f u = int_le (pos 0) f && (int_lt f u && int_le u (pos end_of_days))

-- the row of values that fit, if its days are a period and its numbers are in their bounds
abbrev pub row_with : RowText → List ℤ → Result Row Reason
row_with p zs =
    cond (is_period p.from p.until)
    (cond (all_bounded p.values) (Ok (stored (record { tuple = zs; first = unsigned_abs p.from; end = unsigned_abs p.until }))) (Err reason.OutOfBounds))
    (Err reason.NoPeriod)

abbrev pub row_of : List Kind → RowText → Result Row Reason
row_of ks p = or_else reason.Misfit (fitted ks p.values) (row_with p)

-- FROM UNTIL VALUE ..
abbrev pub row_line : List Kind → List Text → Result Row Reason
row_line ks ws = or_else reason.Form (take_row ws) (row_of ks)
