-- What the changes at cuts come to.
use Rattle.std.specs.Prelude.{List, [], ◌∷◌, ℤ, ◌+ℤ◌, ◌≤ℤ◌}
use Rattle.relation.specs.declared.rows.Row.{Row}
use Rattle.relation.specs.Bounds.{largest_number, smallest_number}
use Rattle.cuts.specs.Amounts.{value}
use Rattle.cuts.specs.Cuts.{cut_row}

-- the changes at a cut are numbers
pub record Small (c : Row) : Type 0 where
  pub rows_low : smallest_number ≤ℤ value 0 c
  pub rows_high : value 0 c ≤ℤ largest_number
  pub amount_low : smallest_number ≤ℤ value 1 c
  pub amount_high : value 1 c ≤ℤ largest_number

-- the cuts with what the changes come to, after a number of rows and an amount
abbrev pub totals : ℤ → ℤ → List Row → List Row
totals n z [] = []
totals n z (c ∷ cs) = cut_row c.first (n +ℤ value 0 c) (z +ℤ value 1 c) ∷ totals (n +ℤ value 0 c) (z +ℤ value 1 c) cs
