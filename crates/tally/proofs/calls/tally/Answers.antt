use Rattle.std.proofs.Common.{◌≡◌, ◌*◌, ◌≤◌, true, length, take, Some, sym, refl, ap, ◌∙◌, subst, inl, arith}
use Rattle.std.specs.Result.{result_ok}
use Rattle.std.proofs.lemmas.Option.{MatchOption-at_none, MatchOption-at_some}
use Rattle.relation.specs.declared.refusals.Refusal.{Refusal}
use Rattle.source.specs.Meaning.{rows_of, day_set}
use Rattle.collect.specs.Collects.{counted}
use Rattle.tally.specs.Tallying.{fitting, TalliesSets}
use Rattle.tally.proofs.Whole.{misfit, too_many, short, allowed, part_size, tallied_whole}
use Rattle.tally.proofs.calls.tally.Goals as goal

pub returns-in_err-by : goal.returns-in_err-by
returns-in_err-by g c =
    let m = g.S.Source.meaning c.args.source.now in
    too_many m c.args.what c.args.by.now c.args.rows.now c.args.index.now c.new.result _ c.from_residual.result (MatchOption-at_none _ _ c.in_err-by.ensures.ok_part c.new.ensures) c.in_err-by.ensures.ok_part c.in_err-by.ensures.value c.from_residual.ensures.1

pub returns-then-not-fits : goal.returns-then-not-fits
returns-then-not-fits g c =
    let m = g.S.Source.meaning c.args.source.now in
    let same = MatchOption-at_some _ _ _ (c.ok_or.ensures.ok_part ∙ ap result_ok c.in_ok-by.was) c.new.ensures in
    inl (misfit m c.args.what c.args.by.now c.args.rows.now c.args.index.now (ap (fitting m c.args.what) (sym same) ∙ sym c.if-not-fits.ensures) ∙ ap (λ (e : Refusal). Some e) (sym c.into.ensures), refl, refl)

pub tally_within-requires : goal.tally_within-requires
tally_within-requires g c =
    let wide = part_size c.args.rows.now _ c.min-rows_end.result c.min-rows_end.ensures refl in
    let long = part_size c.args.index.now _ c.min-index_end.result c.min-index_end.ensures refl in
    record {
      fits = sym c.if-not-fits.ensures;
      rows_room = omega (arith, wide);
      index_room = omega (arith, long);
      few_rows = omega (arith, wide);
      few_index = omega (arith, long);
    }

pub returns-then-count_filled-limit : goal.returns-then-count_filled-limit
returns-then-count_filled-limit g c =
    let m = g.S.Source.meaning c.args.source.now in
    let same = MatchOption-at_some _ _ _ (c.ok_or.ensures.ok_part ∙ ap result_ok c.in_ok-by.was) c.new.ensures in
    inl (short m c.args.what c.args.by.now c.args.rows.now c.args.index.now (ap (fitting m c.args.what) (sym same) ∙ sym c.if-not-fits.ensures) (λ p q. omega arith) ∙ ap (λ (e : Refusal). Some e) (sym c.into-then-count_filled-limit.ensures), refl, refl)

pub returns : goal.returns
returns g c =
    let m = g.S.Source.meaning c.args.source.now in
    let rows = c.args.rows.now in
    let index = c.args.index.now in
    let wide : 3 * length (rows_of m) ≤ counted rows = omega arith in
    let long : 3 * length (rows_of m) ≤ counted index = omega arith in
    let same = MatchOption-at_some _ _ _ (c.ok_or.ensures.ok_part ∙ ap result_ok c.in_ok-by.was) c.new.ensures in
    let fit : fitting m c.args.what c.args.by.now ≡ true = ap (fitting m c.args.what) (sym same) ∙ sym c.if-not-fits.ensures in
    tallied_whole m c.args.what c.args.by.now rows c.tally_within.new.rows index c.tally_within.new.index c.min-rows_end.result c.min-index_end.result c.min-rows_end.ensures c.min-index_end.ensures c.tally_within.auto.rows c.tally_within.auto.index
    (allowed m c.args.what c.args.by.now rows index fit wide long) c.tally_within.result (subst (λ b. TalliesSets c.args.what b (day_set m) (length (take c.min-rows_end.result rows)) (length (take c.min-index_end.result index)) c.tally_within.result c.tally_within.new.rows c.tally_within.new.index) same c.tally_within.ensures)
