use Rattle.std.proofs.Common.{◌≤◌, length, sym, subst, arith}
use Rattle.std.specs.List.{AllByRecursion as AllOf}
use Rattle.std.proofs.ByRecursion.{All-from_get_or, All-map}
use Rattle.relation.specs.Rows.{Period}
use Rattle.relation.specs.Stored.{stored}
use Rattle.source.specs.Meaning.{day_set}
use Rattle.collect.specs.Areas.{bare}
use Rattle.collect.specs.Collects.{counted}
use Rattle.collect.proofs.Indexed.{no_spec}
use Rattle.cuts.specs.Amounts.{Within}
use Rattle.tally.specs.Tallying.{TalliesSets}
use Rattle.tally.proofs.Collected.{columns, narrow, within, few_listed, fits_listed, left_front}
use Rattle.tally.proofs.Whole.{collectable, not_refused}
use Rattle.tally.proofs.calls.tally_within.Goals as goal

pub tally_list-requires : goal.tally_list-requires
tally_list-requires g c =
    let m = g.S.Source.meaning c.args.source.now in
    let s = g.S.Source.sound c.args.source.now in
    let n = c.in_ok-n.n in
    let left = c.in_ok-n.ensures.1 in
    let xs = left.part.list in
    let lists = left.part.lists in
    let count = left.part.count in
    let fewer = few_listed m s xs lists in
    let few : n ≤ counted c.args.rows.now = omega arith in
    let front = left_front (day_set m) c.args.rows.now c.collect.new.rows c.args.index.now c.collect.new.index n left few in
    record {
      rows_room = omega arith;
      index_room = omega arith;
      few_index = omega arith;
      narrow = narrow m s c.args.what c.args.by.columns.now c.requires.fits;
      periods = subst (AllOf (λ w. Period (bare w))) (sym front) (All-map (λ w. Period (bare w)) stored xs lists.canonical.periods);
      within = subst (AllOf (Within c.args.what)) (sym front) (All-map (Within c.args.what) stored xs (All-from_get_or (λ x. Within c.args.what (stored x)) xs no_spec (λ i lt. within m s c.args.what c.args.by.columns.now c.requires.fits _ (fits_listed m s xs lists i lt))));
    }

pub returns-in_err-n : goal.returns-in_err-n
returns-in_err-n g c =
    let m = g.S.Source.meaning c.args.source.now in
    absurd (not_refused _ _ (collectable m c.args.rows.now c.args.index.now (omega arith) (omega arith)) c.in_err-n.ensures.0)

pub returns : goal.returns
returns g c =
    let m = g.S.Source.meaning c.args.source.now in
    let s = g.S.Source.sound c.args.source.now in
    let n = c.in_ok-n.n in
    let left = c.in_ok-n.ensures.1 in
    let xs = left.part.list in
    let count = left.part.count in
    let fewer = few_listed m s xs left.part.lists in
    let few : n ≤ counted c.args.rows.now = omega arith in
    let front = left_front (day_set m) c.args.rows.now c.collect.new.rows c.args.index.now c.collect.new.index n left few in
    let e = c.tally_list.ensures xs (day_set m) front left.part.lists (columns m s c.args.what c.args.by.columns.now c.requires.fits) in
    subst (λ k. TalliesSets c.args.what c.args.by.columns.now (day_set m) k (length c.args.index.now) c.tally_list.result c.tally_list.new.rows c.tally_list.new.index) c.collect.auto.rows
    (subst (λ k. TalliesSets c.args.what c.args.by.columns.now (day_set m) (length c.collect.new.rows) k c.tally_list.result c.tally_list.new.rows c.tally_list.new.index) c.collect.auto.index e)
