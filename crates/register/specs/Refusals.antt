-- When a call is refused, and for which reason: the first that applies, in the fixed order.
use Rattle.std.specs.List.{list_all}
use Rattle.std.specs.Prelude.{◌≡◌, ℕ, Bool, cond, not, ◌&&◌, List, ◌++◌, length, drop, pos, Some, None, Ok, Err, Option, Result, ◌==◌, nat_le, nat_lt}
use Rattle.relation.specs.declared.rows.Row.{Row}
use Rattle.relation.specs.declared.kinds.Kind.{Kind}
use Rattle.relation.specs.declared.refusals.Refusal.{Refusal}
use Rattle.relation.specs.declared.refusals.Reason.{Reason}
use Rattle.relation.specs.declared.refusals.Reason.TheVariants as no
use Rattle.relation.specs.Bounds.{most_columns}
use Rattle.relation.specs.Rows.{is_period}
use Rattle.relation.specs.Stored.{firsts, meant}
use Rattle.relation.specs.Values.{word}
use Rattle.source.specs.Meaning.{fits}
use Rattle.collect.specs.Collects.{counted}
use Rattle.listing.specs.Text.{list_text}
use Rattle.layers.specs.Alike.{same_kinds}
use Rattle.tree.specs.declared.Node.{Node}
use Rattle.words.specs.Name.{is_name}
use Rattle.register.specs.declared.slips.Slip.{Slip}
use Rattle.register.specs.declared.store.Store.{Store}
use Rattle.register.specs.Layout.{vacancy, is_few, is_zero}
use Rattle.register.specs.State.{held, used, rows_of, drafted, published, is_there, kinds_of, part_rows, size_of}

abbrev pub err_of : {T E : Type 0} → Result T E → Option E
err_of (Ok x) = None
err_of (Err e) = Some e

-- the name is well-formed and stands for nothing, the kinds are one to six, and an entry is free
abbrev pub draft_no : Store → List ℕ → List Kind → Option Reason
draft_no s name kinds =
    cond (not (is_name name)) (Some no.Name)
    (cond (is_there (held s (word name))) (Some no.Name)
    (cond (not (is_few kinds)) (Some no.Misfit)
    (cond (not (vacancy s.directory.entries)) (Some no.NoEntry) None)))

-- a slip fits a register of its number where its name is a draft
abbrev pub slip_fits : ℕ → Store → Slip → Bool
slip_fits number s slip = slip.register == number && drafted (held s slip.name.code)

-- every value past the first n is 0
abbrev pub rest_zero : ℕ → Row → Bool
rest_zero n row = list_all is_zero (drop n (firsts most_columns row.values (pos 0)))

-- why a row of some kinds may not stand in a relation of its own kinds
abbrev pub row_no : List Kind → List Kind → Row → Option Reason
row_no kinds given row =
    cond (not (same_kinds kinds given)) (Some no.Misfit)
    (cond (not (is_period row.first row.end)) (Some no.NoPeriod)
    (cond (not (fits kinds (meant (length kinds) row).tuple)) (Some no.OutOfBounds)
    (cond (not (rest_zero (length kinds) row)) (Some no.UnusedValue) None)))

-- the first of two reasons, tested one after the other
abbrev pub or_else : Option Reason → Option Reason → Option Reason
or_else None o = o
or_else (Some e) o = Some e

abbrev pub put_no : ℕ → Store → Slip → Row → List Kind → Option Reason
put_no number s slip row given =
    cond (not (slip_fits number s slip)) (Some no.SlipMisfit)
    (or_else (row_no (kinds_of (held s slip.name.code)) given row)
    (cond (not (nat_lt (used s) (rows_of s))) (Some no.NoRow) None))

-- a work area has one of both for each row
abbrev pub work_no : ℕ → List Row → List Node → Option Reason
work_no n work index = cond (nat_le n (counted work) && nat_le n (counted index)) None (Some no.ShortWork)

abbrev pub publish_no : ℕ → Store → Slip → List Row → List Node → Option Reason
publish_no number s slip work index =
    cond (not (slip_fits number s slip)) (Some no.SlipMisfit)
    (work_no (size_of (held s slip.name.code)) work index)

abbrev pub abandon_no : ℕ → Store → Slip → Option Reason
abandon_no number s slip = cond (not (slip_fits number s slip)) (Some no.SlipMisfit) None

-- a refusal that hands the slip back
abbrev pub handed_back : Option Reason → Slip → Option (Refusal × Slip)
handed_back None slip = None
handed_back (Some o) slip = Some (Rattle.relation.specs.Refusals.plain o, slip)

-- the name is well-formed and published
abbrev pub drop_no : Store → List ℕ → Option Reason
drop_no s name = cond (is_name name && published (held s (word name))) None (Some no.Name)

-- ---- show

-- NAME KINDS ROWS, then a line for each row of the relation of that name
abbrev pub show_text : Store → List ℕ → List ℕ
show_text s name = list_text name (kinds_of (held s (word name))) (part_rows (held s (word name)))

-- the name is well-formed and published, and the text fits whole
abbrev pub show_no : Store → List ℕ → List ℕ → Option Reason
show_no s name output = or_else (drop_no s name) (cond (nat_le (length (show_text s name)) (length output)) None (Some no.ShortOutput))

-- the text stands at the start of the output, whose later bytes are as they were, and its length is answered
pub record Shown (text : List ℕ) (k : ℕ) (before after : List ℕ) : Type 0 where
  pub size : k ≡ length text
  pub bytes : after ≡ text ++ drop (length text) before
