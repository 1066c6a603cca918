use Rattle.std.proofs.Common.{is_err, refl}
use Rattle.relation.specs.Refusals.{plain, plain?}
use Rattle.register.specs.History.{shown}
use Rattle.register.proofs.Days.{kept}
use Rattle.register.proofs.Kept.{exact_by}
use Rattle.register.proofs.registers.Register.show.Goals as goal

pub returns : goal.returns
returns c =
    let s = c.args.self.now.store in
    record {
      refused = c.show.ensures.refused;
      after = c.show.ensures.after;
      steps = record { exact = exact_by plain? refl (λ o. (plain o, refl)) c.show.result _ c.show.ensures.refused; left = refl };
      accounts = λ h acc. kept (shown c.args.name.now c.args.output.now (is_err c.show.result)) h s s refl acc;
    }
