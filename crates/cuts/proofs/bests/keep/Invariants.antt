use Rattle.std.proofs.Common.{◌≡◌, ℕ, ◌<◌, length, get_or}
use Rattle.collect.specs.Areas.{no_row}
use Rattle.cuts.proofs.Keeping.{Keeping}
use Rattle.cuts.proofs.bests.keep.Given as goal

abbrev pub invariant-loop-cut : goal.invariant-loop-cut
invariant-loop-cut l =
    Keeping l.extreme l.value l.row l.initial.cut-items l.cut-items l.cut-index
    × (length l.cut-items ≡ length l.initial.cut-items)
    × ((k : ℕ) → k < l.begun → (get_or l.fn.cuts k no_row).first < l.row.first)
