use Rattle.std.proofs.Common.{refl}
use Rattle.register.specs.History.{put}
use Rattle.relation.specs.Refusals.{plain, plain?}
use Rattle.register.proofs.Days.{kept}
use Rattle.register.proofs.Kept.{left_by, exact_by}
use Rattle.register.proofs.registers.Register.put.Goals as goal

pub returns : goal.returns
returns c =
    let s = c.args.self.now.store in
    let e = put c.args.slip.now c.args.row c.args.kinds.now in
    let left = left_by e s c.put.new.self c.put.result _ (λ k p. (k, p)) (λ e. e) c.put.ensures.after in
    record {
      number = refl;
      refused = c.put.ensures.refused;
      after = c.put.ensures.after;
      steps = record { exact = exact_by plain? refl (λ o. (plain o, refl)) c.put.result _ c.put.ensures.refused; left = left };
      accounts = λ h acc. kept _ h s c.put.new.self left acc;
    }
