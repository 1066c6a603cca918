-- The cuts of a group: their changes are numbers.
use Rattle.std.proofs.Common.{◌≡◌, List, [], ◌∷◌, ℤ, pos, ◌-ℤ◌, neg_ℤ, ◌≤ℤ◌, ap, ◌∙◌, ap₂, arith, w64, SFits, to_z, of_z}
use Rattle.std.specs.List.{AllByRecursion as AllOf}
use Rattle.std.proofs.lemmas.Int.{ints, to_z-of_z}
use Rattle.relation.specs.declared.rows.Row.{Row}
use Rattle.relation.specs.Bounds.{largest_number, smallest_number}
use Rattle.tallies.specs.declared.rules.Tally.{Tally}
use Rattle.tallies.specs.declared.rules.Tally.TheVariants.{Count, Sum, Min, Max}
use Rattle.cuts.specs.Amounts.{value, Within}
use Rattle.cuts.specs.declared.cuts.Change.{Change}
use Rattle.cuts.specs.Cuts.{cut_row, changed, opened, closed, cuts_of}
use Rattle.cuts.specs.Totals.{Small}

opened_small : (m : Tally) (w : Row) → Within m w → Small (opened m w)
opened_small Count w h = record { rows_low = omega (arith, ints); rows_high = omega (arith, ints); amount_low = omega (arith, ints); amount_high = omega (arith, ints) }
opened_small (Sum c) w h = record { rows_low = omega (arith, ints); rows_high = omega (arith, ints); amount_low = h.0; amount_high = h.1 }
opened_small (Min c) w h = record { rows_low = omega (arith, ints); rows_high = omega (arith, ints); amount_low = omega (arith, ints); amount_high = omega (arith, ints) }
opened_small (Max c) w h = record { rows_low = omega (arith, ints); rows_high = omega (arith, ints); amount_low = omega (arith, ints); amount_high = omega (arith, ints) }

-- a number turned round is one
turned : (z : ℤ) → (smallest_number ≤ℤ z) × (z ≤ℤ largest_number) → (smallest_number ≤ℤ neg_ℤ z) × (neg_ℤ z ≤ℤ largest_number)
turned z h = (omega (arith, ints), omega (arith, ints))

closed_small : (m : Tally) (w : Row) → Within m w → Small (closed m w)
closed_small m w h =
    let s = opened_small m w h in
    let rows = turned (value 0 (opened m w)) (s.rows_low, s.rows_high) in
    let amounts = turned (value 1 (opened m w)) (s.amount_low, s.amount_high) in
    record { rows_low = rows.0; rows_high = rows.1; amount_low = amounts.0; amount_high = amounts.1 }

pub small_cuts : (m : Tally) (ws : List Row) → AllOf (Within m) ws → AllOf Small (cuts_of m ws)
small_cuts m [] h = tt
small_cuts m (w ∷ ws) h = (opened_small m w h.0, (closed_small m w h.0, small_cuts m ws h.1))

-- a number turned round, as it is computed
abbrev computed : ℤ → ℤ
computed z = to_z w64 (of_z w64 (pos 0 -ℤ to_z w64 (of_z w64 z)))

computed_is : (z : ℤ) → smallest_number ≤ℤ z → z ≤ℤ largest_number → computed z ≡ neg_ℤ z
computed_is z low high =
    let f : SFits w64 z = omega (arith, ints) in
    let g : SFits w64 (pos 0 -ℤ z) = omega (arith, ints) in
    ap (λ t. to_z w64 (of_z w64 (pos 0 -ℤ t))) (to_z-of_z w64 z f) ∙ to_z-of_z w64 (pos 0 -ℤ z) g ∙ omega (arith, ints)

-- the cut at a row's end, as it is computed
pub closed_is : (m : Tally) (w : Row) (change : Change) → Within m w → change ≡ changed m w → cut_row w.end (computed change.rows) (computed change.amount) ≡ closed m w
closed_is m w change h is =
    let s = opened_small m w h in
    ap (λ (d : Change). cut_row w.end (computed d.rows) (computed d.amount)) is
    ∙ ap₂ (cut_row w.end) (computed_is (changed m w).rows s.rows_low s.rows_high) (computed_is (changed m w).amount s.amount_low s.amount_high)
