use Rattle.std.specs.List.{list_all}
use Rattle.std.proofs.Common.{◌≡◌, ◌<◌, List, map, length, get_or, take, drop, ap, ◌∙◌, subst, arith}
use Rattle.relation.specs.Rows.{SpecRow, on}
use Rattle.relation.specs.Few.{items}
use Rattle.relation.specs.Stored.{meant}
use Rattle.collect.specs.Collects.{Collects}
use Rattle.register.specs.Layout.{free, is_free, is_few, good_row}
use Rattle.register.specs.Refusals.{work_no}
use Rattle.register.proofs.Changes.{old, good_at}
use Rattle.register.proofs.Publishing.{part_in}
use Rattle.register.proofs.store.Store.coalesce.Goals as goal

pub coalesce_part-requires : goal.coalesce_part-requires
coalesce_part-requires c =
    let s = c.args.self.now in
    let es = s.directory.entries in
    let i = c.args.i in
    let e = get_or es i free in
    let l : i < length es = omega (arith, c.requires.whole.all, c.requires.within) in
    let p = part_in es s.rows.now i c.capacity-capacity.result c.laid-at.result.0 c.requires.whole l c.capacity-capacity.ensures c.laid-at.ensures.start in
    let g = good_at es s.rows.now i c.requires.whole l (ap is_free c.requires.draft) in
    let ks : items c.laid-at.result.1.kinds ≡ items e.kinds = ap (λ x. items x.kinds) c.laid-at.ensures.entry in
    let n : c.laid-at.result.1.count ≡ e.count = ap (λ x. x.count) c.laid-at.ensures.entry in
    record {
      within = omega (arith, p.0, n);
      places = p.1;
      few = ap is_few ks ∙ g.few;
      good = (λ j. list_all (good_row (ks j)) (map (meant (length (ks j))) (take (n j) (drop c.laid-at.result.0 (take c.capacity-capacity.result s.rows.now)))))
          ∙ (ap (λ x. list_all (good_row (items e.kinds)) (map (meant (length (items e.kinds))) x)) p.2 ∙ g.rows_good);
    }

pub returns : goal.returns
returns c =
    let s = c.args.self.now in
    let es = s.directory.entries in
    let i = c.args.i in
    let e = get_or es i free in
    let l : i < length es = omega (arith, c.requires.whole.all, c.requires.within) in
    let p = part_in es s.rows.now i c.capacity-capacity.result c.laid-at.result.0 c.requires.whole l c.capacity-capacity.ensures c.laid-at.ensures.start in
    let ks : items c.laid-at.result.1.kinds ≡ items e.kinds = ap (λ x. items x.kinds) c.laid-at.ensures.entry in
    let n : c.laid-at.result.1.count ≡ e.count = ap (λ x. x.count) c.laid-at.ensures.entry in
    let same : map (meant (length (items c.laid-at.result.1.kinds))) (take c.laid-at.result.1.count (drop c.laid-at.result.0 (take c.capacity-capacity.result s.rows.now))) ≡ map (meant (length (items e.kinds))) (old es s.rows.now i) =
    (λ j. map (meant (length (ks j))) (take (n j) (drop c.laid-at.result.0 (take c.capacity-capacity.result s.rows.now)))) ∙ ap (map (meant (length (items e.kinds)))) p.2 in
    subst (λ (xs : List SpecRow). Collects (work_no (length xs) c.args.work.now c.args.index.now) (on xs) c.args.work.now c.args.index.now c.coalesce_part.result c.coalesce_part.new.work c.coalesce_part.new.index) same c.coalesce_part.ensures
