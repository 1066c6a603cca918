use Rattle.std.proofs.Common.{pos, ap, ◌∙◌}
use Rattle.relation.specs.Bounds.{most_columns}
use Rattle.relation.specs.Operations.{picked}
use Rattle.relation.specs.Stored.{firsts}
use Rattle.layers.specs.Chosen.{chosen}
use Rattle.layers.proofs.Picks.{row_picked}
use Rattle.layers.proofs.projects.ProjectSource.row.Goals as goal

pub returns : goal.returns
returns g c = let s = c.args.self.now in row_picked (g.S.Source.meaning s.source) (chosen s.columns) (g.S.Source.sound s.source) s.allowed c.args.k c.in_ok-row.row c.pick-values.result c.in_ok-row.ensures
    (c.pick-values.ensures ∙ ap (λ cs. firsts most_columns (picked cs c.in_ok-row.row.values) (pos 0)) c.as_slice.ensures)
