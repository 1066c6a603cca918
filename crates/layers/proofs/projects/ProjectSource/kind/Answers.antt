use Rattle.std.proofs.Common.{◌∙◌}
use Rattle.layers.specs.Chosen.{chosen}
use Rattle.layers.proofs.Picks.{kind_picked, cell_missing}
use Rattle.layers.proofs.projects.ProjectSource.kind.Goals as goal

pub returns-in_err-below : goal.returns-in_err-below
returns-in_err-below g c = c.from_residual.ensures ∙ cell_missing _ (chosen c.args.self.now.columns) c.args.c c.in_err-below.ensures

pub returns : goal.returns
returns g c = let s = c.args.self.now in c.kind.ensures ∙ kind_picked (g.S.Source.meaning s.source) (chosen s.columns) (g.S.Source.sound s.source) s.allowed c.args.c c.in_ok-below.below c.in_ok-below.ensures
