-- The forms of a line, as a reader of its words.
use Rattle.std.specs.Prelude.{ℕ, Bool, true, false, cond, ◌&&◌, List, [], ◌∷◌, length, ℤ, is_some, Some, None, Option, nat_le}
use Rattle.std.specs.List.{list_all}
use Rattle.std.specs.Str.{bytes_eq}
use Rattle.relation.specs.declared.conditions.Term.{Term}
use Rattle.relation.specs.declared.conditions.Term.TheVariants as term
use Rattle.tallies.specs.declared.rules.Tally.{Tally}
use Rattle.tallies.specs.declared.rules.Tally.TheVariants as tallying
use Rattle.relation.specs.Values.{word_value}
use Rattle.words.specs.declared.names.Reserved.{Reserved}
use Rattle.words.specs.declared.names.Reserved.TheVariants as reserved
use Rattle.words.specs.declared.tokens.Position.TheVariants as position
use Rattle.words.specs.Rest.{rest}
use Rattle.words.specs.Token.{Tok, name, numeral, quoted, column, sign}
use Rattle.takers.specs.Take.{Text, ◌then◌, column_at, take_token, take_name, take_number, take_column, take_sign, take_equals, take_kinds, take_row, nothing, is_blank}
use Rattle.takers.specs.Writing.{spelled_reserved}
use Rattle.grammar.specs.declared.keywords.Verb.{Verb}
use Rattle.grammar.specs.declared.keywords.Verb.TheVariants.{Select, Project, Union, Except, Join, Count, Sum, Min, Max}
use Rattle.grammar.specs.declared.keywords.Keyword.{Keyword}
use Rattle.grammar.specs.declared.keywords.Keyword.TheVariants.{Load, Row, End, Drop, Show, Query}
use Rattle.grammar.specs.Keywords.{keyword}
use Rattle.grammar.specs.declared.queries.Measure.{Measure}
use Rattle.grammar.specs.Said.{pair_at, values_in, columns_in, pairs_in, windowed, says_operand}
use Rattle.grammar.specs.Meaning as meaning

-- ---- parts

-- the words after the reserved one
abbrev pub take_reserved : Reserved → List Text → Option (List Text)
take_reserved r [] = None
take_reserved r (w ∷ ws) = cond (bytes_eq w (spelled_reserved r)) (Some ws) None

-- no window, or the one that follows `during`
abbrev pub window_after : List Text → Option (List Text) → Option (Option (ℤ × ℤ) × List Text)
window_after ws None = Some (None, ws)
window_after ws (Some on) = take_number on then (λ f. take_number f.1 then (λ u. Some (Some (f.0, u.0), u.1)))

abbrev pub window : List Text → Option (Option (ℤ × ℤ) × List Text)
window ws = window_after ws (take_reserved reserved.During ws)

-- a name, with a window if `during` follows
abbrev pub operand : List Text → Option (meaning.Operand × List Text)
operand ws = take_name ws then (λ a. window a.1 then (λ d. Some (windowed a.0 d.0, d.1)))

-- a value or a column
abbrev pub term_in : Tok → Option Term
term_in (name n) = None
term_in (numeral z) = Some (term.Number z)
term_in (quoted q) = word_value q then (λ z. Some (term.Word z))
term_in (column k) = Some (term.Column k)
term_in (sign s) = None

abbrev pub take_term : List Text → Option (Term × List Text)
take_term ws = take_token position.Column ws then (λ t. term_in t.0 then (λ x. Some (x, t.1)))

-- ---- tails

abbrev pub all_columns : List Text → Bool
all_columns ws = list_all (λ w. is_some (column_at w)) ws

abbrev pub all_pairs : List Text → Bool
all_pairs [] = true
all_pairs (x ∷ []) = false
all_pairs (x ∷ y ∷ ws) = is_some (pair_at x y) && all_pairs ws

-- one word or more, all as wanted
abbrev pub filled : (List Text → Bool) → List Text → Option (List Text)
filled wanted ws = cond (nat_le 1 (length ws) && wanted ws) (Some ws) None

-- nothing, or the reserved word and what is wanted after it
abbrev pub optionally : (List Text → Bool) → List Text → Option (List Text) → Option (List Text)
optionally wanted ws None = nothing ws then (λ _. Some ws)
optionally wanted ws (Some on) = filled wanted on

abbrev pub take_pairs : List Text → Option (List Text)
take_pairs ws = optionally all_pairs ws (take_reserved reserved.On ws)

abbrev pub take_groups : List Text → Option (List Text)
take_groups ws = optionally all_columns ws (take_reserved reserved.By ws)

-- ---- queries

-- what stands after `sum NEW =`
pub record Measured : Type 0 where
  pub operand : meaning.Operand
  pub column : ℕ
  pub groups : List Text

abbrev pub says_measured : Measure → Measured
says_measured m = record { operand = says_operand m.operand; column = m.column; groups = rest m.groups }

abbrev pub measured : List Text → Option Measured
measured ws =
    operand ws then (λ a. take_reserved reserved.Of a.1 then (λ on. take_column on then (λ c. take_groups c.1 then (λ gs.
    Some (record { operand = a.0; column = c.0; groups = gs })))))

abbrev pub tallied : Tally → Measured → meaning.Query
tallied t m = meaning.tally t m.operand (columns_in m.groups)

-- two operands, and nothing after them
abbrev pub both : List Text → Option (meaning.Operand × meaning.Operand)
both ws = operand ws then (λ a. operand a.1 then (λ b. nothing b.1 then (λ _. Some (a.0, b.0))))

abbrev pub query_of : Verb → List Text → Option meaning.Query
query_of Select ws =
    operand ws then (λ a. take_reserved reserved.Where a.1 then (λ on. take_column on then (λ c. take_sign c.1 then (λ s. take_term s.1 then (λ x. nothing x.1 then (λ _.
    Some (meaning.select a.0 (record { column = c.0; sign = s.0; term = x.0 }))))))))
query_of Project ws = operand ws then (λ a. take_reserved reserved.On a.1 then (λ on. filled all_columns on then (λ cs. Some (meaning.project a.0 (columns_in cs)))))
query_of Union ws = both ws then (λ p. Some (meaning.union p.0 p.1))
query_of Except ws = both ws then (λ p. Some (meaning.except p.0 p.1))
query_of Join ws = operand ws then (λ a. operand a.1 then (λ b. take_pairs b.1 then (λ ps. Some (meaning.join a.0 b.0 (pairs_in ps)))))
query_of Count ws = operand ws then (λ a. take_groups a.1 then (λ gs. Some (meaning.tally tallying.Count a.0 (columns_in gs))))
query_of Sum ws = measured ws then (λ m. Some (tallied (tallying.Sum m.column) m))
query_of Min ws = measured ws then (λ m. Some (tallied (tallying.Min m.column) m))
query_of Max ws = measured ws then (λ m. Some (tallied (tallying.Max m.column) m))

-- ---- lines

-- a name, and nothing after it
abbrev pub only_name : List Text → Option Text
only_name ws = take_name ws then (λ n. nothing n.1 then (λ _. Some n.0))

abbrev pub form : Option Keyword → List Text → Option meaning.Line
form None ws = None
form (Some Load) ws = take_name ws then (λ n. take_kinds n.1 then (λ k. nothing k.1 then (λ _. Some (meaning.load n.0 k.0))))
form (Some Row) ws = take_row ws then (λ p. Some (meaning.row p.from p.until (values_in p.values)))
form (Some End) ws = nothing ws then (λ _. Some meaning.end)
form (Some Drop) ws = only_name ws then (λ n. Some (meaning.drop n))
form (Some Show) ws = only_name ws then (λ n. Some (meaning.show n))
form (Some (Query v)) ws = take_name ws then (λ n. take_equals n.1 then (λ on. query_of v on then (λ q. Some (meaning.query n.0 q))))

abbrev pub worded : List Text → Option meaning.Line
worded [] = None
worded (w ∷ ws) = form (keyword w) ws

-- what a line with these words says
abbrev pub line_of : List Text → Option meaning.Line
line_of ws = cond (is_blank ws) (Some meaning.skip) (worded ws)
