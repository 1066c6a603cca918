-- The least or the greatest value at cuts, one row after the other.
use Rattle.std.specs.Prelude.{ℕ, cond, List, ℤ, pos, fold, int_lt}
use Rattle.std.specs.Int.{int_min, int_max}
use Rattle.relation.specs.declared.rows.Row.{Row}
use Rattle.relation.specs.Rows.{holds}
use Rattle.collect.specs.Areas.{bare}
use Rattle.cuts.specs.declared.bests.Extreme.{Extreme}
use Rattle.cuts.specs.declared.bests.Extreme.TheVariants.{Least, Greatest}
use Rattle.cuts.specs.Amounts.{value, valued}
use Rattle.cuts.specs.Cuts.{cut_row}

-- the one of two that is kept
abbrev pub better : Extreme → ℤ → ℤ → ℤ
better Least = int_min
better Greatest = int_max

-- a cut with one value more; the first counts alone
abbrev pub kept_at : Extreme → ℤ → Row → Row
kept_at e z c = cond (int_lt (pos 0) (value 0 c)) (cut_row c.first (pos 1) (better e (value 1 c) z)) (cut_row c.first (pos 1) z)

-- the same where the row holds the cut's day
abbrev pub kept_by_row : Extreme → ℤ → Row → Row → Row
kept_by_row e z w c = cond (holds (bare w) c.first) (kept_at e z c) c

-- the same for each row in turn, with its value in column x
abbrev pub kept_by_rows : Extreme → ℕ → List Row → Row → Row
kept_by_rows e x ws c = fold (λ b w. kept_by_row e (valued x w) w b) c ws
