use Rattle.std.proofs.Common.{◌≡◌, length, arith, rules, ◌∙◌}
use Rattle.source.proofs.Cells.{zip_fits}
use Rattle.source.proofs.tables.fits_kinds.Goals as goal

pub returns : goal.returns
returns c =
    let six : length c.args.row.now.values ≡ 6 = search rules in
    c.all_hold.ensures ∙ zip_fits c.args.kinds.now c.args.row.now.values (omega arith)
