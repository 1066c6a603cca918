-- The days of a stored row, and those that two spans share.
use Rattle.std.specs.Prelude.{min, max, cond, Some, None, Option, nat_lt}
use Rattle.relation.specs.declared.days.Span.{Span}
use Rattle.relation.specs.declared.rows.Row.{Row}

abbrev pub days_of : Row → Span
days_of w = record { first = w.first; end = w.end }

-- the days that two spans share; none where they share no day
abbrev pub shared : Span → Span → Option Span
shared s u = cond (nat_lt (max s.first u.first) (min s.end u.end)) (Some (record { first = max s.first u.first; end = min s.end u.end })) None
