use Rattle.plans.specs.Questions.{no_bare, bare_plan}
use Rattle.plans.proofs.Answered.{answered}
use Rattle.plans.proofs.questions.list_bare.Goals as goal

pub returns : goal.returns
returns g c =
    let a = c.in_ok-asked.ensures in
    answered (no_bare (g.H.Source.meaning c.args.hires) (g.C.Source.meaning c.args.covers)) (bare_plan (g.H.Source.meaning c.args.hires) (g.C.Source.meaning c.args.covers)) _ (record { allowed = a.0; plan = a.1 }) c.args.rows.now c.args.index.now c.collect.result c.collect.new.rows c.collect.new.index c.collect.ensures
