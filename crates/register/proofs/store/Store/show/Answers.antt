use Rattle.std.proofs.Common.{◌≡◌, ◌+◌, ◌-◌, map, length, get_or, take, drop, sym, refl, ap, ◌∙◌}
use Rattle.std.proofs.lemmas.Option.{MatchOption-at_some, MatchOption-at_none}
use Rattle.relation.specs.declared.refusals.Reason.TheVariants as no
use Rattle.relation.specs.Few.{items}
use Rattle.relation.specs.Refusals.{plain?}
use Rattle.relation.specs.Stored.{meant}
use Rattle.listing.specs.Text.{list_text}
use Rattle.register.specs.Layout.{free}
use Rattle.register.proofs.Refused.{refused_by}
use Rattle.register.proofs.Showing.{text_at, show_result, show_none}
use Rattle.register.proofs.store.Store.show.Goals as goal

pub returns-in_err-i : goal.returns-in_err-i
returns-in_err-i c =
    let none = MatchOption-at_none _ _ c.in_err-i.ensures.ok_part c.published_at.ensures in
    rw (refused_by c.published_at.result no.Name _ c.from_residual.result c.in_err-i.ensures.ok_part c.in_err-i.ensures.value c.from_residual.ensures.1)
    (record { refused = sym (ap plain? (show_none c.args.self.now c.args.name.now c.args.output.now none)); after = refl })

pub returns : goal.returns
returns c =
    let s = c.args.self.now in
    let i = c.in_ok-i.i in
    let at = c.laid-at.result.0 in
    let e = get_or s.directory.entries i free in
    let f = MatchOption-at_some _ _ c.in_ok-i.i c.in_ok-i.ensures.ok_part c.published_at.ensures in
    let ks : c.as_slice.result.now ≡ items e.kinds = c.as_slice.ensures.items ∙ ap (λ x. items x.kinds) c.laid-at.ensures.entry in
    let n : c.laid-at.result.1.count ≡ e.count = ap (λ x. x.count) c.laid-at.ensures.entry in
    let r = show_result s c.args.name.now _ c.args.output.now c.write_list.new.output c.write_list.result f.0
    ((λ j. list_text c.args.name.now (ks j) (map (meant (length (ks j))) (take (at + n j - at) (drop at s.rows.now)))) ∙ text_at s c.args.name.now i at c.requires f.1 f.2 f.3 c.laid-at.ensures.start) c.write_list.ensures in
    record { refused = r.0; after = r.1 }
