use Rattle.std.proofs.Common.{◌≡◌, ◌≤◌, length, take, subst, arith}
use Rattle.std.proofs.lemmas.List.{length-take-le}
use Rattle.std.proofs.lemmas.Bool.{le-leb}
use Rattle.relation.specs.Rows.{on}
use Rattle.source.specs.Meaning.{rows_of, day_set}
use Rattle.collect.specs.Collects.{counted, HoldsList}
use Rattle.collect.proofs.Gathered.{loaded_tidy, loaded_means, loaded_periods, loaded_rest}
use Rattle.collect.proofs.Parts.{leaves}
use Rattle.collect.proofs.collects.collect.Goals as goal

pub list_rows-kept-requires : goal.list_rows-kept-requires
list_rows-kept-requires g c =
    let m = g.S.Source.meaning c.args.source.now in
    let s = g.S.Source.sound c.args.source.now in
    let re = c.min-rows_end.result in
    let ie = c.min-index_end.result in
    let rows = length-take-le re c.load_rows.new.rows (omega arith) in
    let index = length-take-le ie c.args.index.now (omega arith) in
    record {
      wide = omega arith;
      room = omega arith;
      few = omega arith;
      periods = loaded_periods m s c.args.rows.now c.load_rows.new.rows c.load_rows.ensures.rows c.count_filled-n.result re (omega arith) (omega arith);
    }

pub returns : goal.returns
returns g c =
    let m = g.S.Source.meaning c.args.source.now in
    let s = g.S.Source.sound c.args.source.now in
    let rows = c.args.rows.now in
    let lent = c.load_rows.new.rows in
    let index = c.args.index.now in
    let re = c.min-rows_end.result in
    let ie = c.min-index_end.result in
    let n = c.count_filled-n.result in
    let all : n ≡ length (rows_of m) = omega arith in
    let le : n ≤ re = omega arith in
    let few : length (rows_of m) ≤ counted rows = omega arith in
    let short : length (rows_of m) ≤ counted index = omega arith in
    let listed : HoldsList (day_set m) (length (take re lent)) (length (take ie index)) c.list_rows-kept.result c.list_rows-kept.new.rows c.list_rows-kept.new.index =
    subst (λ xs. HoldsList (on xs) (length (take re lent)) (length (take ie index)) c.list_rows-kept.result c.list_rows-kept.new.rows c.list_rows-kept.new.index) (loaded_means m s rows lent c.load_rows.ensures.rows n re all le)
    (c.list_rows-kept.ensures (length m.kinds) s.few_kinds (loaded_tidy m s rows lent c.load_rows.ensures.rows n re all le)) in (
      rw (le-leb (length (rows_of m)) (counted rows) few, le-leb (length (rows_of m)) (counted index) short),
      leaves (day_set m) rows lent c.list_rows-kept.new.rows index c.list_rows-kept.new.index re ie c.list_rows-kept.result c.min-rows_end.ensures c.min-index_end.ensures c.load_rows.auto.rows (loaded_rest m s rows lent c.load_rows.ensures.rows n re all le) c.list_rows-kept.auto.rows c.list_rows-kept.auto.index listed,
    )
