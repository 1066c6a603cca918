use Rattle.std.proofs.Common.{◌≡◌, length, pos, refl, ap, ◌∙◌, arith, rules}
use Rattle.std.specs.Ordering.{is_lt}
use Rattle.relation.specs.Stored.{meant}
use Rattle.relation.proofs.Firsts.{length_firsts}
use Rattle.source.specs.Tables.{leading}
use Rattle.source.proofs.Leads.{firsts_take, leading_whole}
use Rattle.source.proofs.tables.falls.Goals as goal

pub returns : goal.returns
returns c =
    let n = c.args.columns in
    let six : length c.args.row.now.values ≡ 6 = search rules in
    let next = (meant n c.args.next.now).tuple in
    let row = (meant n c.args.row.now).tuple in
    c.is_lt.ensures
    ∙ ap is_lt (c.compare_lead.ensures
    ∙ ap (leading next) (firsts_take n n c.args.row.now.values (pos 0) refl (omega arith))
    ∙ leading_whole next row (omega (arith, length_firsts n c.args.next.now.values (pos 0), length_firsts n c.args.row.now.values (pos 0))))
