use Rattle.std.proofs.Common.{◌≡◌, ◌-◌, ◌≤◌, length, drop, pos, sym, ap, ◌∙◌, arith, rules}
use Rattle.std.specs.List.{list_all}
use Rattle.std.proofs.lemmas.List.{take_all, length-drop}
use Rattle.relation.specs.Bounds.{most_columns}
use Rattle.relation.specs.Stored.{firsts}
use Rattle.relation.proofs.Firsts.{firsts_all}
use Rattle.register.specs.Layout.{is_zero}
use Rattle.register.proofs.store.rest_zero.Goals as goal

pub returns : goal.returns
returns c =
    let vs = c.args.row.now.values in
    let n = c.args.columns in
    let six : length vs ≡ most_columns = search rules in
    let short : length (drop n vs) ≤ most_columns - n = simp length-drop (omega (arith, six)) in
    c.all_zero.ensures ∙ ap (list_all is_zero) (take_all (most_columns - n) (drop n vs) short)
    ∙ ap (λ xs. list_all is_zero (drop n xs)) (sym (ap (λ k. firsts k vs (pos 0)) (sym six) ∙ firsts_all vs (pos 0)))
