use Rattle.std.proofs.Common.{map, ap}
use Rattle.relation.specs.Stored.{stored}
use Rattle.source.proofs.Following.{rows_all}
use Rattle.source.proofs.filled.Filled.new.Goals as goal

pub returns : goal.returns
returns g c = ap (map stored) (rows_all (g.S.Source.meaning c.args.source.now))
