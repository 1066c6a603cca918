-- Words on lists: some element, and each two elements in their order.
use Rattle.std.specs.Prelude.{◌≡◌, ◌⊎◌, List, [], ◌∷◌, ◌≢◌}
use Rattle.std.specs.List.{AllByRecursion as AllOf}

-- some element has P
abbrev pub Any : {X : Type 0} → (X → Type 0) → List X → Type 0
Any P [] = ⊥
Any P (x ∷ xs) = P x ⊎ Any P xs

-- each element stands in R to every later one
abbrev pub Pairwise : {X : Type 0} → (X → X → Type 0) → List X → Type 0
Pairwise R [] = Unit {0}
Pairwise R (x ∷ xs) = AllOf (R x) xs × Pairwise R xs

abbrev pub Member : {X : Type 0} → List X → X → Type 0
Member xs x = Any (λ y. y ≡ x) xs

-- no element stands twice
abbrev pub Distinct : {X : Type 0} → List X → Type 0
Distinct xs = Pairwise (λ x y. x ≢ y) xs
