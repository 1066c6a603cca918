-- Cuts: the days at which a row begins or ends.
use Rattle.std.specs.Prelude.{ℕ, ◌*◌, List, [], ◌∷◌, ℤ, pos, neg_ℤ}
use Rattle.relation.specs.declared.rows.Row.{Row}
use Rattle.cuts.specs.declared.cuts.Change.{Change}
use Rattle.tallies.specs.declared.rules.Tally.{Tally}
use Rattle.tallies.specs.declared.rules.Tally.TheVariants.{Count, Sum, Min, Max}
use Rattle.cuts.specs.Amounts.{valued}
use Rattle.cuts.specs.Groups.{most_rows}

-- the row in which a cut is kept
abbrev pub cut_row : ℕ → ℤ → ℤ → Row
cut_row day rows amount = record { first = day; end = 0; values = rows ∷ amount ∷ pos 0 ∷ pos 0 ∷ pos 0 ∷ pos 0 ∷ [] }

-- what a row adds where it begins, and takes away where it ends
abbrev pub changed : Tally → Row → Change
changed Count w = record { rows = pos 1; amount = pos 1 }
changed (Sum c) w = record { rows = pos 1; amount = valued c w }
changed (Min c) w = record { rows = pos 0; amount = pos 0 }
changed (Max c) w = record { rows = pos 0; amount = pos 0 }

-- the cuts at which a row begins and ends
abbrev pub opened : Tally → Row → Row
opened m w = cut_row w.first (changed m w).rows (changed m w).amount

abbrev pub closed : Tally → Row → Row
closed m w = cut_row w.end (neg_ℤ (changed m w).rows) (neg_ℤ (changed m w).amount)

-- two cuts for each row
abbrev pub cuts_of : Tally → List Row → List Row
cuts_of m [] = []
cuts_of m (w ∷ ws) = opened m w ∷ closed m w ∷ cuts_of m ws

-- so many cuts at the most
abbrev pub most_cuts : ℕ
most_cuts = 2 * most_rows
