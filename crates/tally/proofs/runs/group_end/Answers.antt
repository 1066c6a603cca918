use Rattle.std.proofs.Common.{rules, ◌≡◌, true, false, arith}
use borrow.Author.Tests.{tests}
use Rattle.std.proofs.lemmas.Iterator.{YieldsList-from_slice, IsFirst-from_position}
use Rattle.relation.specs.declared.rows.Row.{Row}
use Rattle.tally.proofs.Ending.{same?, run_from}
use Rattle.tally.proofs.runs.group_end.Goals as goal

pub returns : goal.returns
returns c =
    let by = c.args.by.columns.now in
    let group = c.pick-group.result in
    let first = IsFirst-from_position _ _ c.position-more.result (λ (w : Row). same? by group w ≡ false) (λ (w : Row). same? by group w ≡ true) c.position-more.ensures.ran (YieldsList-from_slice _ c.iter.ensures.rest) (λ x q k. search (rules, tests)) (λ x q k. search (rules, tests)) in
    run_from by c.args.rows.now c.args.from c.requires.some (omega (arith, c.args.by.few)) group c.pick-group.ensures c.position-more.result first c.unwrap_or.result c.unwrap_or.ensures
