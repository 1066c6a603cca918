use Rattle.std.proofs.Common.{Some, sym, ap, ◌∙◌}
use Rattle.std.proofs.lemmas.Slice.Eq.{slice_eq-Decides}
use Rattle.except.proofs.Tupled.{has_tuple, lacks_tuple}
use Rattle.except.proofs.blockers.Blockers.get.Goals as goal
use Rattle.std.proofs.lemmas.Bool.Decides.{Decides-int_eq}

pub returns-then-eq : goal.returns-then-eq
returns-then-eq g c =
    ap Some c.into.ensures ∙ has_tuple (g.S.Source.meaning c.args.self.now.source.now) (g.S.Source.sound c.args.self.now.source.now) c.args.p c.in_ok-row.row c.args.self.now.tuple.now c.eq.result
    (sym c.row.ensures ∙ c.in_ok-row.was) c.args.self.now.whole (slice_eq-Decides Decides-int_eq _ _ _ c.eq.ensures) c.if-eq.true

pub returns-else-eq : goal.returns-else-eq
returns-else-eq g c =
    lacks_tuple (g.S.Source.meaning c.args.self.now.source.now) (g.S.Source.sound c.args.self.now.source.now) c.args.p c.in_ok-row.row c.args.self.now.tuple.now c.eq.result
    (sym c.row.ensures ∙ c.in_ok-row.was) c.args.self.now.whole (slice_eq-Decides Decides-int_eq _ _ _ c.eq.ensures) c.if-eq.false
