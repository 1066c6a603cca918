-- What was read, where something was read.
use Rattle.std.proofs.Common.{◌≡◌, ℕ, Some, None, Option, refl, ap, arith}
use Rattle.takers.specs.Take.{◌then◌}

pub absent : {A : Type 0} {X : Type 0} (y : A) → ◌≡◌ {A = Option A} None (Some y) → X
absent y e = let z : ◌≡◌ {A = ℕ} 0 1 = cc in absurd (omega arith)

pub then_some : {A B : Type 0} (o : Option A) (f : A → Option B) (y : B) → (o then f) ≡ Some y → (x : A) × (o ≡ Some x) × (f x ≡ Some y)
then_some None f y e = absent y e
then_some (Some x) f y e = (x, refl, e)

pub then_is : {A B : Type 0} (o : Option A) (f : A → Option B) (x : A) → o ≡ Some x → (o then f) ≡ f x
then_is o f x e = ap (λ v. v then f) e
