use Rattle.std.proofs.Common.{◌≡◌, ℕ, true, false, is_some, None, sym, refl, ap, subst}
use Rattle.std.proofs.lemmas.Option.{MatchOption-at_some, MatchOption-at_none}
use Rattle.relation.specs.declared.refusals.Reason.TheVariants as no
use Rattle.relation.specs.Refusals.{plain?}
use Rattle.relation.specs.Values.{word}
use Rattle.register.specs.State.{held, size_of, Leaves, Removed}
use Rattle.register.specs.History.{dropped}
use Rattle.register.proofs.Days.{kept}
use Rattle.register.proofs.Refused.{refused_by}
use Rattle.register.proofs.registers.Register.drop.Goals as goal

pub returns : goal.returns
returns c =
    let s = c.args.self.now.store in
    let t = c.clear.new.self in
    let name = c.args.name.now in
    let f = MatchOption-at_some _ _ c.in_ok-i.i c.in_ok-i.ensures.ok_part c.published_at.ensures in
    let done : Removed s t (word name) c.clear.result = record {
      leaves = subst (λ (n : ℕ). Leaves s t n None) f.3 c.clear.ensures.leaves;
      size = subst (λ (n : ℕ). c.clear.result ≡ size_of (held s n)) f.3 c.clear.ensures.size;
    } in
    record {
      number = refl;
      refused = sym (ap plain? f.0);
      after = done;
      steps = record { exact = sym (ap is_some f.0); left = (c.clear.result, done) };
      accounts = λ h acc. kept (dropped name false) h s t (c.clear.result, done) acc;
    }

pub returns-in_err-i : goal.returns-in_err-i
returns-in_err-i c =
    let s = c.args.self.now.store in
    let none = MatchOption-at_none _ _ c.in_err-i.ensures.ok_part c.published_at.ensures in
    rw (refused_by c.published_at.result no.Name _ c.from_residual.result c.in_err-i.ensures.ok_part c.in_err-i.ensures.value c.from_residual.ensures.1)
    (record {
      number = refl;
      refused = sym (ap plain? none);
      after = refl;
      steps = record { exact = sym (ap is_some none); left = refl };
      accounts = λ h acc. kept (dropped c.args.name.now true) h s s refl acc;
    })
