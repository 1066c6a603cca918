-- What a window means: the rows below that share a day with a period, on the shared days.
use Rattle.std.specs.Prelude.{ℕ, min, max, cond, not, Some, None, Option, nat_lt}
use Rattle.relation.specs.declared.refusals.Reason.{Reason}
use Rattle.relation.specs.declared.refusals.Reason.TheVariants.{NoPeriod}
use Rattle.relation.specs.Rows.{SpecRow, is_period}
use Rattle.relation.specs.Sets.{Same}
use Rattle.relation.specs.Operations.{window}
use Rattle.source.specs.Meaning.{Meaning, day_set}

-- the row on the days that it shares with the period from first to end; none where they share no day
abbrev pub cut : ℕ → ℕ → Option SpecRow → Option SpecRow
cut first end None = None
cut first end (Some r) = cond (nat_lt (max first r.first) (min end r.end)) (Some (record { tuple = r.tuple; first = max first r.first; end = min end r.end })) None

abbrev pub windowed : Meaning → ℕ → ℕ → Meaning
windowed m first end = record { kinds = m.kinds; count = m.count; at = λ k. cut first end (m.at k) }

-- the reason against a window
abbrev pub no_window : ℕ → ℕ → Option Reason
no_window first end = cond (not (is_period first end)) (Some NoPeriod) None

-- on every day, the set below where the period holds the day, else no tuple
abbrev pub Windows : Meaning → ℕ → ℕ → Type 0
Windows m first end = (d : ℕ) → Same (day_set (windowed m first end) d) (window first end d (day_set m d))
