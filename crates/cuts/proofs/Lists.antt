-- Lemmas on lists and totals.
use Rattle.std.proofs.Common.{◌≡◌, List, [], ◌∷◌, ◌++◌, map, ℤ, ◌+ℤ◌, refl, ap, ap₂, arith}
use Rattle.std.specs.List.{AllByRecursion as AllOf}
use Rattle.std.proofs.lemmas.Int.{ints}
use Rattle.cuts.specs.Amounts.{total}

pub map_map : {X Y Z : Type 0} (f : Y → Z) (g : X → Y) (xs : List X) → map f (map g xs) ≡ map (λ x. f (g x)) xs
map_map f g [] = refl
map_map f g (x ∷ xs) = ap (λ ys. f (g x) ∷ ys) (map_map f g xs)

pub map_alike : {X Y : Type 0} (f g : X → Y) → ((x : X) → f x ≡ g x) → (xs : List X) → map f xs ≡ map g xs
map_alike f g h [] = refl
map_alike f g h (x ∷ xs) = ap₂ (λ y ys. y ∷ ys) (h x) (map_alike f g h xs)

pub map_same : {X Y : Type 0} (f g : X → Y) (xs : List X) → AllOf (λ x. f x ≡ g x) xs → map f xs ≡ map g xs
map_same f g [] h = refl
map_same f g (x ∷ xs) h = ap₂ (λ y ys. y ∷ ys) h.0 (map_same f g xs h.1)

pub total_append : (xs ys : List ℤ) → total (xs ++ ys) ≡ total xs +ℤ total ys
total_append [] ys = omega (arith, ints)
total_append (x ∷ xs) ys = let e = total_append xs ys in omega (arith, ints)

pub total_push : (xs : List ℤ) (y : ℤ) → total (xs ++ (y ∷ [])) ≡ total xs +ℤ y
total_push xs y = let e = total_append xs (y ∷ []) in omega (arith, ints)
