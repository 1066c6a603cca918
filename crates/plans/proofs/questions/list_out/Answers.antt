use Rattle.plans.specs.Questions.{no_out, out_plan}
use Rattle.plans.proofs.Answered.{answered}
use Rattle.plans.proofs.questions.list_out.Goals as goal

pub returns : goal.returns
returns g c =
    let a = c.in_ok-asked.ensures in
    answered (no_out (g.H.Source.meaning c.args.hires)) (out_plan (g.H.Source.meaning c.args.hires)) _ (record { allowed = a.0; plan = a.1 }) c.args.rows.now c.args.index.now c.collect.result c.collect.new.rows c.collect.new.index c.collect.ensures
