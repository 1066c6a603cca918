use Rattle.std.proofs.Common.{ℕ, true, false, is_some, Some, Ok, Err, sym, refl, ap, ◌∙◌, subst}
use Rattle.relation.specs.Refusals.{plain, plain?}
use Rattle.register.specs.State.{held, size_of, Issued}
use Rattle.register.specs.Refusals.{work_no, handed_back}
use Rattle.register.specs.History.{published}
use Rattle.register.proofs.Days.{kept}
use Rattle.register.proofs.Kept.{exact_by}
use Rattle.register.proofs.Fits.{publish_slip, publish_work, handed_err, handed_ok}
use Rattle.register.proofs.registers.Register.publish.Goals as goal

pub returns-in_default : goal.returns-in_default
returns-in_default c =
    let s = c.args.self.now.store in
    let slip = c.args.slip in
    let no = publish_slip c.args.self.now.number s slip c.args.work.now c.args.index.now c.in_default.ensures in
    record {
      number = refl;
      refused = handed_err _ _ slip (ap Some c.into.ensures ∙ sym (ap plain? no));
      after = refl;
      work = c.blank_work.ensures.work;
      index = c.blank_work.ensures.index;
      steps = record { exact = sym (ap is_some no); left = refl };
      accounts = λ h acc. kept (published slip c.args.work.now c.args.index.now true) h s s refl acc;
    }

pub returns-in-Ok : goal.returns-in-Ok
returns-in-Ok c =
    let s = c.args.self.now.store in
    let t = c.publish.new.self in
    let slip = c.args.slip in
    let f = c.in-Some.ensures in
    let e = c.in-Ok.ensures in
    let yes = publish_work c.args.self.now.number s slip c.args.work.now c.args.index.now f.0 in
    let done : Issued s t slip.name.code c.in-Ok.kept = subst (λ (n : ℕ). Issued s t n c.in-Ok.kept) f.3 e.after in
    let refused = handed_ok _ slip (e.refused ∙ sym (ap plain? (yes ∙ ap (λ n. work_no (size_of (held s n)) c.args.work.now c.args.index.now) (sym f.3)))) in
    record {
      number = refl;
      refused = refused;
      after = done;
      work = e.work;
      index = e.index;
      steps = record { exact = exact_by (λ q. handed_back q slip) refl (λ o. ((plain o, slip), refl)) (Ok c.in-Ok.kept) _ refused; left = (c.in-Ok.kept, done) };
      accounts = λ h acc. kept (published slip c.args.work.now c.args.index.now false) h s t (c.in-Ok.kept, done) acc;
    }

pub returns-in-Err : goal.returns-in-Err
returns-in-Err c =
    let s = c.args.self.now.store in
    let t = c.publish.new.self in
    let slip = c.args.slip in
    let f = c.in-Some.ensures in
    let e = c.in-Err.ensures in
    let yes = publish_work c.args.self.now.number s slip c.args.work.now c.args.index.now f.0 in
    let refused = handed_err _ c.in-Err.refusal slip (e.refused ∙ sym (ap plain? (yes ∙ ap (λ n. work_no (size_of (held s n)) c.args.work.now c.args.index.now) (sym f.3)))) in
    record {
      number = refl;
      refused = refused;
      after = e.after;
      work = e.work;
      index = e.index;
      steps = record { exact = exact_by {X = ℕ} (λ q. handed_back q slip) refl (λ o. ((plain o, slip), refl)) (Err (c.in-Err.refusal, slip)) _ refused; left = e.after };
      accounts = λ h acc. kept (published slip c.args.work.now c.args.index.now true) h s t e.after acc;
    }
