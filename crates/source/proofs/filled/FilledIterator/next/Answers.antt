use Rattle.std.proofs.Common.{◌≡◌, ◌∷◌, length, sym, ap, ◌∙◌, arith}
use Rattle.source.proofs.Following.{left_some, left_none}
use Rattle.source.specs.Filled.{rows_left}
use Rattle.source.proofs.filled.FilledIterator.next.Given.{Over}
use Rattle.source.proofs.filled.FilledIterator.next.Goals as goal

-- the row that is given, and the rows left then
given : (g : Over) (c : goal.In-Some g) → rows_left g.S.Source.meaning c.args.self.now ≡ c.in-Some.row ∷ rows_left g.S.Source.meaning (record { source = c.loop-self.self.source; place = c.seek-self.result })
given g c = sym c.loop-self.invariant.1 ∙ left_some (g.S.Source.meaning c.loop-self.self.source.now) c.loop-self.self.place c.seek-self.result c.seek-self.ensures (omega arith) c.in-Some.row (sym c.row.ensures ∙ c.in-Some.is)

pub returns-in-Some-clause-steps : goal.returns-in-Some-clause-steps
returns-in-Some-clause-steps g c = given g c

pub returns-in-Some-clause-goes : goal.returns-in-Some-clause-goes
returns-in-Some-clause-goes g c = let e = ap length (given g c) in record { on = λ _. (tt, tt, omega (arith, e)); keeps = tt; rests = λ _. tt }

pub loop-self-preserved : goal.loop-self-preserved
loop-self-preserved g c = (c.loop-self.invariant.0, sym (left_none (g.S.Source.meaning c.loop-self.self.source.now) c.loop-self.self.place c.seek-self.result c.seek-self.ensures (omega arith) (sym c.row.ensures ∙ c.in_default.is)) ∙ c.loop-self.invariant.1)
