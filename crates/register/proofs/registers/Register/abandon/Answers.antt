use Rattle.std.proofs.Common.{◌≡◌, ℕ, true, false, is_some, None, sym, refl, ap, subst}
use Rattle.std.proofs.lemmas.Option.{MatchOption-at_some, MatchOption-at_none}
use Rattle.relation.specs.declared.refusals.Reason.TheVariants as no
use Rattle.relation.specs.Refusals.{plain?}
use Rattle.register.specs.State.{held, size_of, Leaves, Removed}
use Rattle.register.specs.History.{abandoned}
use Rattle.register.proofs.Days.{kept}
use Rattle.register.proofs.Fits.{slip_ok, slip_no}
use Rattle.register.proofs.Refused.{refused_by}
use Rattle.register.proofs.registers.Register.abandon.Goals as goal

pub returns : goal.returns
returns c =
    let s = c.args.self.now.store in
    let t = c.clear.new.self in
    let slip = c.args.slip in
    let f = MatchOption-at_some _ _ c.in_ok-i.i c.in_ok-i.ensures.ok_part c.draft_of-place.ensures in
    let done : Removed s t slip.name.code c.clear.result = record {
      leaves = subst (λ (n : ℕ). Leaves s t n None) f.3 c.clear.ensures.leaves;
      size = subst (λ (n : ℕ). c.clear.result ≡ size_of (held s n)) f.3 c.clear.ensures.size;
    } in
    let ok = slip_ok c.args.self.now.number s slip f.0 in
    record {
      number = refl;
      refused = sym (ap plain? ok);
      after = done;
      steps = record { exact = sym (ap is_some ok); left = (c.clear.result, done) };
      accounts = λ h acc. kept (abandoned slip false) h s t (c.clear.result, done) acc;
    }

pub returns-in_err-i : goal.returns-in_err-i
returns-in_err-i c =
    let s = c.args.self.now.store in
    let slip = c.args.slip in
    let no_slip = slip_no c.args.self.now.number s slip (MatchOption-at_none _ _ c.in_err-i.ensures.ok_part c.draft_of-place.ensures) in
    rw (refused_by c.draft_of-place.result no.SlipMisfit _ c.from_residual.result c.in_err-i.ensures.ok_part c.in_err-i.ensures.value c.from_residual.ensures.1)
    (record {
      number = refl;
      refused = sym (ap plain? no_slip);
      after = refl;
      steps = record { exact = sym (ap is_some no_slip); left = refl };
      accounts = λ h acc. kept (abandoned slip true) h s s refl acc;
    })
