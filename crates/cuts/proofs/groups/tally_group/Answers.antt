use Rattle.std.proofs.Common.{◌≡◌, ◌*◌, length, drop, get_or, ap, ◌∙◌, arith}
use Rattle.std.proofs.lemmas.List.{drop_at, length-take-le}
use Rattle.collect.specs.Areas.{no_row}
use Rattle.cuts.specs.Stretches.{stretches_by}
use Rattle.cuts.proofs.Tallying.{tallied}
use Rattle.cuts.proofs.groups.tally_group.Goals as goal

pub returns : goal.returns
returns c =
    let group = c.args.group.now in
    let out = c.args.out.now in
    let cuts = c.emit.new.cuts in
    let long : length cuts ≡ 2 * length group = c.emit.auto.cuts ∙ c.cut_days.auto.cuts ∙ length-take-le (2 * length group) out c.requires.room in
    let few = c.emit.ensures.few in
    let t = tallied c.args.what c.args.by.columns.now group c.requires.periods c.emit.result cuts (drop (2 * length group) out) (omega (arith, few)) (c.emit.ensures.stretches ∙ ap (stretches_by (get_or group 0 no_row) c.args.by.columns.now) c.cut_days.ensures) in
    record {
      few = omega (arith, few);
      rest = drop_at cuts (drop (2 * length group) out) (2 * length group) long;
      periods = t.periods;
      rising = t.rising;
      rows = t.gives;
      all = t.all;
    }
