use Rattle.std.proofs.Common.{sym, ap, ◌∙◌, subst}
use Rattle.std.specs.List.{AllByRecursion as AllOf}
use Rattle.cuts.specs.Days.{Rises, sorted}
use Rattle.cuts.specs.Totals.{Small}
use Rattle.cuts.proofs.Cutting.{small_cuts}
use Rattle.cuts.proofs.Sorting.{sorted_rises, all_sorted}
use Rattle.cuts.proofs.groups.cut_days.Goals as goal

pub measure_cuts-requires-clause-rises : goal.measure_cuts-requires-clause-rises
measure_cuts-requires-clause-rises c = subst Rises (sym c.sort.ensures) (sorted_rises c.write.new.cuts)

pub measure_cuts-requires-clause-small : goal.measure_cuts-requires-clause-small
measure_cuts-requires-clause-small c =
    subst (AllOf Small) (sym (c.sort.ensures ∙ ap sorted c.write.ensures)) (all_sorted _ Small (small_cuts c.args.what c.args.group.now c.requires.within))
