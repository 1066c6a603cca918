-- What the tests on tuples and sets decide.
use Rattle.std.proofs.Common.{◌≡◌, ℕ, [], ◌∷◌, ℤ, ◌<ℤ◌, Decides, Ordering, Less, Equal, Greater, sym, refl, subst, ap₂, arith}
use lib.Signed.{<ℤ_irrefl}
use Rattle.std.specs.Ordering.{is_eq, ordering_then, MatchOrdering, int_cmp}
use Rattle.std.specs.Cmp.{int_ranks}
use Rattle.std.specs.Cmp.Lexicographic.{slice_cmp}
use Rattle.std.proofs.lemmas.Bool.{false≢true}
use Rattle.std.proofs.lemmas.Bool.Decides.{Decides-or}
use Rattle.relation.specs.Lists.{Member}
use Rattle.relation.specs.Sets.{Tuple, TupleSet, equal, has}

-- ---- equal tuples

apart : (x y : ℤ) (xs ys : Tuple) → (x ≡ y → ⊥) → x ∷ xs ≡ y ∷ ys → ⊥
apart x y xs ys n e = n (cc)

no_tuple : (x : ℤ) (xs : Tuple) → [] ≡ x ∷ xs → ⊥
no_tuple x xs e = let z : ◌≡◌ {A = ℕ} 0 1 = cc in omega arith

equal_more : (x y : ℤ) (xs ys : Tuple) (k : Ordering) → MatchOrdering k (x <ℤ y) (x ≡ y) (y <ℤ x) → Decides (equal xs ys) (xs ≡ ys) → Decides (is_eq (ordering_then k (slice_cmp int_cmp xs ys))) (x ∷ xs ≡ y ∷ ys)
equal_more x y xs ys Less h d = (λ e. absurd (false≢true e), λ e. absurd (apart x y xs ys (λ g. <ℤ_irrefl (subst (λ z. x <ℤ z) (sym g) h)) e))
equal_more x y xs ys Equal h d = (λ e. ap₂ ◌∷◌ h (d.0 e), λ e. d.1 (cc))
equal_more x y xs ys Greater h d = (λ e. absurd (false≢true e), λ e. absurd (apart x y xs ys (λ g. <ℤ_irrefl (subst (λ z. z <ℤ x) (sym g) h)) e))

pub equal_decides : (s t : Tuple) → Decides (equal s t) (s ≡ t)
equal_decides [] [] = (λ e. refl, λ e. refl)
equal_decides [] (y ∷ ys) = (λ e. absurd (false≢true e), λ e. absurd (no_tuple y ys e))
equal_decides (x ∷ xs) [] = (λ e. absurd (false≢true e), λ e. absurd (no_tuple x xs (sym e)))
equal_decides (x ∷ xs) (y ∷ ys) = equal_more x y xs ys (int_cmp x y) (int_ranks x y) (equal_decides xs ys)

pub has_decides : (S : TupleSet) (t : Tuple) → Decides (has S t) (Member S t)
has_decides [] t = (λ e. absurd (false≢true e), λ m. absurd m)
has_decides (s ∷ S) t = Decides-or (equal s t) (has S t) (equal_decides s t) (has_decides S t)
