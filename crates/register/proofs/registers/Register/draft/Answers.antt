use Rattle.std.proofs.Common.{refl}
use Rattle.register.specs.History.{drafted}
use Rattle.relation.specs.Refusals.{plain, plain?}
use Rattle.register.proofs.Days.{kept}
use Rattle.register.proofs.Kept.{left_by, exact_by}
use Rattle.register.proofs.registers.Register.draft.Goals as goal

pub returns : goal.returns
returns c =
    let s = c.args.self.now.store in
    let e = drafted c.args.name.now c.args.kinds.now in
    let left = left_by e s c.draft.new.self c.draft.result _ (λ slip p. p.2) (λ e. e) c.draft.ensures.after in
    record {
      number = refl;
      refused = c.draft.ensures.refused;
      after = c.draft.ensures.after;
      steps = record { exact = exact_by plain? refl (λ o. (plain o, refl)) c.draft.result _ c.draft.ensures.refused; left = left };
      accounts = λ h acc. kept _ h s c.draft.new.self left acc;
    }
