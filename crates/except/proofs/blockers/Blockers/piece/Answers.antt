use Rattle.std.proofs.Common.{sym, ◌∙◌}
use Rattle.except.proofs.Pieces.{piece_is}
use Rattle.except.proofs.blockers.Blockers.piece.Goals as goal

pub returns-in_err-end : goal.returns-in_err-end
returns-in_err-end g c =
    c.from_residual-in_err-end.ensures ∙ sym (piece_is (g.S.Source.meaning c.args.self.now.source.now) c.args.self.now.tuple.now c.args.days c.in_ok-first.first c.args.j _ c.requires
    (sym c.candidate.ensures ∙ c.in_ok-first.was) (sym c.piece_end.ensures ∙ c.in_err-end.was))

pub returns : goal.returns
returns g c =
    sym (piece_is (g.S.Source.meaning c.args.self.now.source.now) c.args.self.now.tuple.now c.args.days c.in_ok-first.first c.args.j _ c.requires
    (sym c.candidate.ensures ∙ c.in_ok-first.was) (sym c.piece_end.ensures ∙ c.in_ok-end.was))
