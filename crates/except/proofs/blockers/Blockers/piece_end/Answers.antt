use Rattle.std.proofs.Common.{◌≡◌, ◌+◌, ◌<◌, true, false, ltb, sym, ◌∙◌, arith}
use Rattle.std.proofs.lemmas.Bool.{cond-true}
use Rattle.except.specs.Blockers.{bars?, blocker, barred}
use Rattle.except.proofs.Scanned.{barred_skip, stop_skip, barred_more, stop_more, barred_decides}
use Rattle.except.proofs.blockers.Blockers.piece_end.Goals as goal

pub loop-p-init : goal.loop-p-init
loop-p-init g c =
    let m = g.S.Source.meaning c.args.self.now.source.now in
    let s = c.seek-p.ensures in
    (omega arith, barred_skip m c.args.self.now.tuple.now c.args.day c.args.j 0 c.seek-p.result s, sym (stop_skip m c.args.self.now.tuple.now c.args.day c.args.end 0 c.seek-p.result s))

pub returns-then-bars : goal.returns-then-bars
returns-then-bars g c =
    let m = g.S.Source.meaning c.args.self.now.source.now in
    let t = c.args.self.now.tuple.now in
    let bar : bars? c.args.day (ltb (c.loop-p.p + 1) c.args.j) (blocker m t c.loop-p.p) ≡ true = cc in
    let lt : c.loop-p.p < m.count = omega arith in
    sym (cond-true (barred m t c.args.day c.args.j m.count) _ _ ((barred_decides m t c.args.day c.args.j m.count).1 (c.loop-p.p, lt, bar)))

pub loop-p-preserved : goal.loop-p-preserved
loop-p-preserved g c =
    let m = g.S.Source.meaning c.args.self.now.source.now in
    let t = c.args.self.now.tuple.now in
    let p = c.loop-p.p in
    let s = c.seek-p-in-loop-p.ensures in
    let bar : bars? c.args.day (ltb (p + 1) c.args.j) (blocker m t p) ≡ false = cc in
    let next = stop_skip m t c.args.day c.args.end (p + 1) c.seek-p-in-loop-p.result s in
    let more = stop_more m t c.args.day c.args.end p in
    (omega arith, barred_skip m t c.args.day c.args.j (p + 1) c.seek-p-in-loop-p.result s ∙ barred_more m t c.args.day c.args.j p c.loop-p.invariant.1 bar, cc)
