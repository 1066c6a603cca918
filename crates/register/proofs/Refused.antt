-- What a `?` answers where there was no value.
use Rattle.std.proofs.Common.{◌≡◌, Some, None, Ok, Err, Option, Result, MatchResult, sym, subst, ap, ◌∙◌}
use Rattle.std.specs.Option.{ok_or}
use Rattle.std.specs.Result.{IsErrAnd, result_ok}
use Rattle.std.proofs.lemmas.Option.{none-some, same_Some}
use Rattle.std.proofs.lemmas.Result.{err_from_is_err_and}
use Rattle.relation.specs.declared.refusals.Reason.{Reason}
use Rattle.relation.specs.declared.refusals.Refusal.{Refusal}
use Rattle.relation.specs.Refusals.{plain}

pub refused_by : {X Y : Type 0} (o : Option Y) (q f : Reason) (r : Result X Refusal) → o ≡ None → ◌≡◌ {A = Result Y Reason} (Err f) (ok_or o q) → IsErrAnd r (λ e. e ≡ plain f) → r ≡ Err (plain q)
refused_by {X} {Y} o q f r none e h =
    let p = err_from_is_err_and r h in
    let s : ◌≡◌ {A = Result Y Reason} (Err f) (Err q) = e ∙ ap (λ x. ok_or x q) none in
    let t : f ≡ q = cc in
    p.1 ∙ ap Err (p.2 ∙ ap plain t)

-- the value of a result that has one, and the error of one that has none
pub ok_of : {X E : Type 0} (P : X → Type 0) (Q : E → Type 0) (r : Result X E) (x : X) → Some x ≡ result_ok r → MatchResult r P Q → P x
ok_of P Q (Ok y) x h p = subst P (sym (same_Some x y h)) p
ok_of P Q (Err e) x h p = absurd (none-some x (sym h))

pub err_of_none : {X E : Type 0} (P : X → Type 0) (Q : E → Type 0) (r : Result X E) → None ≡ result_ok r → MatchResult r P Q → (e : E) × Q e
err_of_none P Q (Ok y) h p = absurd (none-some y h)
err_of_none P Q (Err e) h p = (e, p)
