use Rattle.std.proofs.Common.{◌≡◌, length, pos, sym, ap, ◌∙◌, arith, rules}
use Rattle.std.specs.Cmp.Lexicographic.{slice_cmp}
use Rattle.source.proofs.Leads.{take_firsts}
use Rattle.source.proofs.tables.compare_lead.Goals as goal
use Rattle.std.specs.Ordering.{int_cmp}

pub returns : goal.returns
returns c =
    let six : length c.args.row.now.values ≡ 6 = search rules in
    let lead = c.args.lead.now in
    c.cmp.ensures
    ∙ ap (λ t. slice_cmp int_cmp t lead) (sym (take_firsts c.args.columns (length lead) c.min.result c.args.row.now.values (pos 0) (omega arith) (omega arith)))
