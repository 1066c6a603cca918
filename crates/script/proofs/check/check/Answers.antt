use Rattle.std.proofs.Common.{rules, Ok, Err}
use Rattle.relation.specs.declared.refusals.Reason.TheVariants.{Form}
use Rattle.script.proofs.Wrong.{spoken}
use Rattle.script.proofs.check.check.Goals as goal

pub returns-in-Some-clause-language : goal.returns-in-Some-clause-language
returns-in-Some-clause-language c = spoken c.args.text.now {U = Unit {0}} (Err (record { reason = Form; line = c.in-Some.line; written = 0 })) (search rules)

pub returns-clause-language : goal.returns-clause-language
returns-clause-language c = spoken c.args.text.now {U = Unit {0}} (Ok tt) (search rules)
