-- What a select means: the rows below whose tuples meet a condition.
use Rattle.std.specs.Prelude.{ℕ, Bool, true, cond, not, Some, None, Option}
use Rattle.relation.specs.declared.kinds.Kind.{Kind}
use Rattle.relation.specs.declared.kinds.Kind.TheVariants as kind
use Rattle.relation.specs.declared.conditions.Condition.{Condition}
use Rattle.relation.specs.declared.conditions.Term.{Term}
use Rattle.relation.specs.declared.conditions.Term.TheVariants.{Number, Word, Column}
use Rattle.relation.specs.declared.refusals.Reason.{Reason}
use Rattle.relation.specs.declared.refusals.Reason.TheVariants.{Misfit, OutOfBounds}
use Rattle.relation.specs.Values.{in_kind}
use Rattle.relation.specs.Rows.{SpecRow}
use Rattle.relation.specs.Sets.{Same}
use Rattle.relation.specs.Operations.{meets, select}
use Rattle.source.specs.Meaning.{Meaning, kind_of, day_set}
use Rattle.layers.specs.Alike.{alike}

-- the row if its tuple meets the condition
abbrev pub kept : Condition → Option SpecRow → Option SpecRow
kept q None = None
kept q (Some r) = cond (meets q r.tuple) (Some r) None

abbrev pub selected : Meaning → Condition → Meaning
selected m q = record { kinds = m.kinds; count = m.count; at = λ k. kept q (m.at k) }

-- the kind of a term; none of a column that is missing
abbrev pub term_kind : Meaning → Term → Option Kind
term_kind m (Number z) = Some kind.Number
term_kind m (Word z) = Some kind.Word
term_kind m (Column c) = kind_of m c

-- a number or a word is within the bounds of its kind
abbrev pub in_bounds : Term → Bool
in_bounds (Number z) = in_kind kind.Number z
in_bounds (Word z) = in_kind kind.Word z
in_bounds (Column c) = true

-- the reason against a select, the first that applies
abbrev pub no_select : Meaning → Condition → Option Reason
no_select m q =
    cond (not (alike (kind_of m q.column) (term_kind m q.term))) (Some Misfit)
    (cond (not (in_bounds q.term)) (Some OutOfBounds) None)

-- on every day, the tuples below that meet the condition
abbrev pub Selects : Meaning → Condition → Type 0
Selects m q = (d : ℕ) → Same (day_set (selected m q) d) (select q (day_set m d))
