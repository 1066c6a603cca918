use Rattle.std.proofs.Common.{rules}
use borrow.Author.Tests.{tests}
use Rattle.layers.proofs.Stores.{row_kept}
use Rattle.layers.proofs.selects.SelectSource.row.Goals as goal

pub returns : goal.returns
returns g c =
    let s = c.args.self.now in
    row_kept (g.S.Source.meaning s.source) s.condition (g.S.Source.sound s.source) s.allowed c.args.k c.filter.result _ (λ w b told. search (rules, tests)) c.row.result c.row.ensures c.filter.ensures
