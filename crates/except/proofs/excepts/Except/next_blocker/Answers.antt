use Rattle.std.proofs.Common.{sym}
use Rattle.except.proofs.Seeking.{no_pieces}
use Rattle.except.proofs.excepts.Except.next_blocker.Goals as goal

pub returns : goal.returns
returns g c =
    let self = c.args.self.now in
    no_pieces (g.L.Source.meaning self.left) (g.R.Source.meaning self.right) (g.L.Source.sound self.left) c.args.i c.columns.result c.args.p c.seek.result c.in-Some.row c.columns.ensures (sym c.in-Some.ensures) c.requires c.seek.ensures
