use Rattle.std.proofs.Common.{◌-◌, arith}
use Rattle.layers.specs.Chosen.{chosen}
use Rattle.layers.proofs.Picks.{seek_picked}
use Rattle.layers.proofs.projects.ProjectSource.seek.Goals as goal

pub returns : goal.returns
returns g c = let s = c.args.self.now in seek_picked (g.S.Source.meaning s.source) (chosen s.columns) (g.S.Source.sound s.source) s.allowed c.args.lead.now c.in_place.result (c.min-n.result - 0) c.args.k c.seek.result c.in_place.ensures (omega arith) (omega arith) c.seek.ensures
