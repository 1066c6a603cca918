use Rattle.std.proofs.Common.{◌≡◌, ◌+◌, ◌≤◌, ◌++◌, map, length, get_or, take, replicate, sym, ap, ◌∙◌, subst, arith}
use Rattle.std.proofs.lemmas.List.{get_or-take, length-append, length-take-le}
use Rattle.std.specs.List.{AllByRecursion as AllOf}
use Rattle.relation.specs.Rows.{Period, on}
use Rattle.relation.specs.Stored.{meant, blank_row}
use Rattle.tree.specs.Trees.{blank}
use Rattle.collect.specs.Areas.{no_row, bare, Tidy}
use Rattle.collect.specs.Collects.{HoldsList}
use Rattle.tallies.specs.Tallies.{tally}
use Rattle.cuts.specs.Amounts.{Within}
use Rattle.tally.specs.Gathered.{gathered}
use Rattle.tally.proofs.Answering.{back_together, all_back, result_sets, result_tidy, moved, holds_for}
use Rattle.tally.proofs.Summed.{outside, not_outside}
use Rattle.tally.proofs.lists.tally_list.Goals as goal

pub tally_groups-made-requires-clause-together : goal.tally_groups-made-requires-clause-together
tally_groups-made-requires-clause-together c = back_together c.args.by.columns.now (take c.args.n c.args.rows.now) c.sort.new.rows (c.sort.ensures ∙ ap (gathered c.args.by.columns.now) c.split_at_mut-listed.ensures.front) c.args.by.few

pub tally_groups-made-requires-clause-periods : goal.tally_groups-made-requires-clause-periods
tally_groups-made-requires-clause-periods c = all_back c.args.by.columns.now (take c.args.n c.args.rows.now) c.sort.new.rows (c.sort.ensures ∙ ap (gathered c.args.by.columns.now) c.split_at_mut-listed.ensures.front) (λ w. Period (bare w)) c.requires.periods

pub tally_groups-made-requires-clause-within : goal.tally_groups-made-requires-clause-within
tally_groups-made-requires-clause-within c = all_back c.args.by.columns.now (take c.args.n c.args.rows.now) c.sort.new.rows (c.sort.ensures ∙ ap (gathered c.args.by.columns.now) c.split_at_mut-listed.ensures.front) (Within c.args.what) c.requires.within

pub returns-then-not-sums_fit : goal.returns-then-not-sums_fit
returns-then-not-sums_fit c xs f from lists columns =
    let by = c.args.by.columns.now in
    let e = c.tally_groups-made.ensures in
    let made = take c.tally_groups-made.result c.tally_groups-made.new.out in
    let split = c.split_at_mut-listed.ensures in
    let size : length c.sort.new.rows ≡ c.args.n = c.sort.auto.rows ∙ split.front_len in
    let wide : length (c.sort.new.rows ++ c.tally_groups-made.new.out) ≡ length c.args.rows.now = omega (arith, length-append c.sort.new.rows c.tally_groups-made.new.out, size, c.tally_groups-made.auto.out, split.back_len) in
    let long : length c.tally_groups-made.new.nodes ≡ length c.args.index.now = omega arith in
    let gathers = c.sort.ensures ∙ ap (gathered by) split.front in
    let sets = result_sets by (take c.args.n c.args.rows.now) c.sort.new.rows gathers xs f from lists c.args.what c.requires.narrow columns c.args.by.few made e.results in (
      outside by f made e.results.periods c.args.what sets (sym c.if-not-sums_fit.ensures),
      c.into.ensures,
      c.blank_all.ensures.rows ∙ ap (λ k. replicate k blank_row) wide,
      c.blank_all.ensures.index ∙ ap (λ k. replicate k blank) long,
    )

pub list_rows-requires-clause-periods : goal.list_rows-requires-clause-periods
list_rows-requires-clause-periods c i lt =
    let back = c.sort.new.rows in
    let out = c.tally_groups-made.new.out in
    let r = c.tally_groups-made.result in
    let after = c.copy_within.new.self in
    let split = c.split_at_mut-listed.ensures in
    let size : length c.sort.new.rows ≡ c.args.n = c.sort.auto.rows ∙ split.front_len in
    let whole : length (c.sort.new.rows ++ c.tally_groups-made.new.out) ≡ length c.args.rows.now = omega (arith, length-append c.sort.new.rows c.tally_groups-made.new.out, size, c.tally_groups-made.auto.out, split.back_len) in
    let few = c.tally_groups-made.ensures.few in
    let room : r ≤ length out = omega (arith, few, size, whole, length-append back out) in
    let front : take r after ≡ take r out = moved back out after c.args.n r size room c.copy_within.ensures.len c.copy_within.ensures.by_index.0 in
    subst (λ w. Period (bare w)) (ap (λ t. get_or t i no_row) (sym front) ∙ get_or-take r after i no_row lt) (c.tally_groups-made.ensures.results.periods i (omega (arith, length-take-le r out room)))

pub returns : goal.returns
returns c xs f from lists columns =
    let by = c.args.by.columns.now in
    let e = c.tally_groups-made.ensures in
    let r = c.tally_groups-made.result in
    let out = c.tally_groups-made.new.out in
    let made = take r out in
    let after = c.copy_within.new.self in
    let split = c.split_at_mut-listed.ensures in
    let size : length c.sort.new.rows ≡ c.args.n = c.sort.auto.rows ∙ split.front_len in
    let whole : length (c.sort.new.rows ++ c.tally_groups-made.new.out) ≡ length c.args.rows.now = omega (arith, length-append c.sort.new.rows c.tally_groups-made.new.out, size, c.tally_groups-made.auto.out, split.back_len) in
    let room : r ≤ length out = omega (arith, e.few, size, whole, length-append c.sort.new.rows out) in
    let gathers = c.sort.ensures ∙ ap (gathered by) split.front in
    let sets = result_sets by (take c.args.n c.args.rows.now) c.sort.new.rows gathers xs f from lists c.args.what c.requires.narrow columns c.args.by.few made e.results in
    let tidy = result_tidy by (take c.args.n c.args.rows.now) c.sort.new.rows gathers xs f from lists c.args.what c.requires.narrow columns c.args.by.few made e.results in
    let front : take r after ≡ made = moved c.sort.new.rows out after c.args.n r size room c.copy_within.ensures.len c.copy_within.ensures.by_index.0 in
    let cols = length by + 1 in
    let listed = c.list_rows.ensures cols (omega arith) (subst (AllOf (Tidy cols)) (sym front) tidy) in
    let of_made = subst (λ ws. HoldsList (on (map (meant cols) ws)) (length after) (length c.tally_groups-made.new.nodes) c.list_rows.result c.list_rows.new.rows c.list_rows.new.index) front listed in
    let wide : length after ≡ length c.args.rows.now = c.copy_within.ensures.len ∙ whole in
    let long : length c.tally_groups-made.new.nodes ≡ length c.args.index.now = omega arith in
    let whole_list = subst (λ k. HoldsList (on (map (meant cols) made)) k (length c.args.index.now) c.list_rows.result c.list_rows.new.rows c.list_rows.new.index) wide
    (subst (λ k. HoldsList (on (map (meant cols) made)) (length after) k c.list_rows.result c.list_rows.new.rows c.list_rows.new.index) long of_made) in (
      not_outside by f made e.results.periods c.args.what sets (sym c.if-not-sums_fit.ensures),
      holds_for (on (map (meant cols) made)) (λ d. tally c.args.what by (f d)) sets _ _ _ _ _ whole_list,
    )
