-- The clauses on histories of each call, from when it is refused and what it leaves.
use Rattle.std.proofs.Common.{◌≡◌, ℕ, Bool, true, false, is_some, is_err, Some, None, Ok, Err, Option, Result, refl, arith, MatchResult}
use Rattle.register.specs.declared.store.Store.{Store}
use Rattle.register.specs.History.{Event}
use Rattle.register.specs.Refusals.{err_of}
use Rattle.register.specs.Runs.{Left}

-- a call that leaves what it must, or nothing new where it is refused
pub left_by : {X E : Type 0} (event : Bool → Event) (s t : Store) (r : Result X E) (P : X → Type 0) →
    ((x : X) → P x → Left (event false) s t) → (t ≡ s → Left (event true) s t) → MatchResult r P (λ _. t ≡ s) →
    Left (event (is_err r)) s t
left_by event s t (Ok x) P done same p = done x p
left_by event s t (Err e) P done same p = same p

-- an answer is a refusal exactly where there is a reason, whatever the refusal carries
pub exact_by : {X E Q : Type 0} (f : Option Q → Option E) → f None ≡ None → ((q : Q) → (e : E) × (f (Some q) ≡ Some e)) →
    (r : Result X E) (q : Option Q) → err_of r ≡ f q → is_err r ≡ is_some q
exact_by f none some (Ok x) None h = refl
exact_by f none some (Ok x) (Some q) h = let y = (some q).1 in let z : ◌≡◌ {A = ℕ} 0 1 = cc in absurd (omega arith)
exact_by f none some (Err e) None h = let z : ◌≡◌ {A = ℕ} 0 1 = cc in absurd (omega arith)
exact_by f none some (Err e) (Some q) h = refl
