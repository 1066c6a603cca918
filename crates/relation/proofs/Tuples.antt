-- The order of tuples.
use Rattle.std.proofs.Common.{◌≡◌, ℕ, zero, suc, ◌<◌, ◌⊎◌, [], ◌∷◌, length, get_or, take, ℤ, pos, ◌<ℤ◌, Ordering, Less, Equal, Greater, sym, refl, ap, ◌∙◌, ap₂, inl, inr, true≢false, arith}
use Rattle.std.specs.Ordering.{is_lt, ordering_then, MatchOrdering, ordering_reverse, int_cmp}
use Rattle.std.specs.Cmp.{int_cmp_total, int_ranks, int_cmp_is}
use Rattle.std.specs.Cmp.Lexicographic.{slice_cmp, lists_total}
use Rattle.relation.specs.Sets.{Tuple, Below}
use Rattle.relation.specs.Theorems as theorems
use Rattle.relation.proofs.TupleSets.{equal_decides}

abbrev Differ : Tuple → Tuple → Type 0
Differ s t = (k : ℕ) × ((k < length s) × (take k s ≡ take k t) × (get_or s k (pos 0) <ℤ get_or t k (pos 0)))

found_more : (x y : ℤ) (xs ys : Tuple) (k : Ordering) → MatchOrdering k (x <ℤ y) (x ≡ y) (y <ℤ x) → ordering_then k (slice_cmp int_cmp xs ys) ≡ Less → (Below xs ys → Differ xs ys) → Differ (x ∷ xs) (y ∷ ys)
found_more x y xs ys Less h b f = (0, (omega arith, refl, h))
found_more x y xs ys Equal h b f = let d = f b in (suc d.0, (omega arith, ap₂ ◌∷◌ h d.1.1, d.1.2))
found_more x y xs ys Greater h b f = absurd (true≢false (sym (ap is_lt b)))

found : (s t : Tuple) → length s ≡ length t → Below s t → Differ s t
found [] [] e b = absurd (true≢false (sym (ap is_lt b)))
found [] (y ∷ ys) e b = absurd (omega arith)
found (x ∷ xs) [] e b = absurd (omega arith)
found (x ∷ xs) (y ∷ ys) e b = found_more x y xs ys (int_cmp x y) (int_ranks x y) b (found xs ys (omega arith))

decided : (s t : Tuple) (k : ℕ) → k < length s → length s ≡ length t → take k s ≡ take k t → get_or s k (pos 0) <ℤ get_or t k (pos 0) → Below s t
decided [] t k l e h c = absurd (omega arith)
decided (x ∷ xs) [] k l e h c = absurd (omega arith)
decided (x ∷ xs) (y ∷ ys) zero l e h c = ap (λ o. ordering_then o (slice_cmp int_cmp xs ys)) (sym (int_cmp_is x y Less c))
decided (x ∷ xs) (y ∷ ys) (suc k) l e h c =
    let same : x ≡ y = cc in
    ap (λ o. ordering_then o (slice_cmp int_cmp xs ys)) (sym (int_cmp_is x y Equal same)) ∙ decided xs ys k (omega arith) (omega arith) (cc) c

pub first_difference : theorems.FirstDifference
first_difference s t e = (found s t e, λ d. decided s t d.0 d.1.0 e d.1.1 d.1.2)

by_order : (s t : Tuple) (k : Ordering) → slice_cmp int_cmp s t ≡ k → Below s t ⊎ ((s ≡ t) ⊎ Below t s)
by_order s t Less e = inl e
by_order s t Equal e = inr (inl ((equal_decides s t).0 (ap Rattle.std.specs.Ordering.is_eq e)))
by_order s t Greater e = inr (inr ((lists_total int_cmp_total).antisymm t s ∙ ap ordering_reverse e))

-- any two tuples are in order or equal
pub cases_tuple : (s t : Tuple) → Below s t ⊎ ((s ≡ t) ⊎ Below t s)
cases_tuple s t = by_order s t (slice_cmp int_cmp s t) refl
