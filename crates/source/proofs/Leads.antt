-- Lemmas on the order of tuples by their first values.
use Rattle.std.proofs.Common.{◌≡◌, ℕ, zero, suc, ◌≤◌, min, ◌⊎◌, List, [], ◌∷◌, length, take, ℤ, ◌<ℤ◌, Ordering, Less, Equal, Greater, sym, refl, ap, ◌∙◌, inl, inr, true≢false, arith}
use Rattle.std.specs.Ordering.{is_lt, is_gt, ordering_then, MatchOrdering, ordering_reverse, int_cmp}
use Rattle.std.specs.Cmp.{int_cmp_total, int_ranks, int_cmp_is}
use Rattle.std.specs.Cmp.Lexicographic.{slice_cmp, lists_total}
use Rattle.std.proofs.lemmas.List.{take_all}
use Rattle.relation.specs.Sets.{Tuple, Below}
use Rattle.relation.specs.Stored.{firsts}
use Rattle.relation.proofs.Firsts.{length_firsts}
use Rattle.relation.proofs.Tuples.{cases_tuple}
use Rattle.source.specs.Meaning.{Begins}
use Rattle.source.specs.Tables.{leading}

-- the padding of a part does not show in a shorter one
pub take_firsts : {X : Type 0} (n m k : ℕ) (xs : List X) (d : X) → k ≡ min n m → n ≤ length xs → take m (firsts n xs d) ≡ take k xs
take_firsts zero zero zero xs d e h = refl
take_firsts zero (suc m) zero xs d e h = refl
take_firsts zero m (suc k) xs d e h = absurd (omega arith)
take_firsts (suc n) zero zero xs d e h = refl
take_firsts (suc n) zero (suc k) xs d e h = absurd (omega arith)
take_firsts (suc n) (suc m) zero xs d e h = absurd (omega arith)
take_firsts (suc n) (suc m) (suc k) [] d e h = absurd (omega arith)
take_firsts (suc n) (suc m) (suc k) (x ∷ xs) d e h = ap (λ ys. x ∷ ys) (take_firsts n m k xs d (omega arith) (omega arith))

pub firsts_take : {X : Type 0} (n k : ℕ) (xs : List X) (d : X) → k ≡ n → n ≤ length xs → take k xs ≡ firsts n xs d
firsts_take n k xs d e h = sym (take_firsts n n k xs d (omega arith) h) ∙ take_all n (firsts n xs d) (omega (arith, length_firsts n xs d))

pub leading_whole : (t lead : Tuple) → length t ≤ length lead → leading t lead ≡ slice_cmp int_cmp t lead
leading_whole t lead h = ap (λ s. slice_cmp int_cmp s lead) (take_all (length lead) t h)

pub begins_equal : (lead t : Tuple) → Begins lead t → leading t lead ≡ Equal
begins_equal [] t b = refl
begins_equal (z ∷ zs) [] b = absurd b
begins_equal (z ∷ zs) (x ∷ xs) b = ap (λ o. ordering_then o (leading xs zs)) (sym (int_cmp_is x z Equal (sym b.0))) ∙ begins_equal zs xs b.1

begins_more : (x z : ℤ) (xs zs : Tuple) (k : Ordering) → MatchOrdering k (x <ℤ z) (x ≡ z) (z <ℤ x) → ordering_then k (leading xs zs) ≡ Equal → (leading xs zs ≡ Equal → Begins zs xs) → (z ≡ x) × Begins zs xs
begins_more x z xs zs Less h e f = absurd (true≢false (ap is_lt e))
begins_more x z xs zs Equal h e f = (sym h, f e)
begins_more x z xs zs Greater h e f = absurd (true≢false (ap is_gt e))

pub equal_begins : (lead t : Tuple) → leading t lead ≡ Equal → Begins lead t
equal_begins [] t e = tt
equal_begins (z ∷ zs) [] e = absurd (true≢false (ap is_lt e))
equal_begins (z ∷ zs) (x ∷ xs) e = begins_more x z xs zs (int_cmp x z) (int_ranks x z) e (equal_begins zs xs)

below_more : (k a b : Ordering) → (a ≡ Less → b ≡ Less) → ordering_then k a ≡ Less → ordering_then k b ≡ Less
below_more Less a b f h = refl
below_more Equal a b f h = f h
below_more Greater a b f h = h

-- what is below by its first values is below
below_take : (n : ℕ) (s t : Tuple) → Below (take n s) (take n t) → Below s t
below_take zero s t h = absurd (true≢false (sym (ap is_lt h)))
below_take (suc n) [] [] h = h
below_take (suc n) [] (y ∷ ys) h = refl
below_take (suc n) (x ∷ xs) [] h = h
below_take (suc n) (x ∷ xs) (y ∷ ys) h = below_more (int_cmp x y) (slice_cmp int_cmp (take n xs) (take n ys)) (slice_cmp int_cmp xs ys) (below_take n xs ys) h

-- of two tuples in order, the first leads with less where the second does, and the second with more where the first does
module _ (s t lead : Tuple) (order : Below t s → ⊥) where
  abbrev first : Tuple
  first = take (length lead) s

  abbrev second : Tuple
  second = take (length lead) t

  pub less_back : leading t lead ≡ Less → leading s lead ≡ Less
  less_back h = step (cases_tuple first second)
    where
      step : Below first second ⊎ ((first ≡ second) ⊎ Below second first) → leading s lead ≡ Less
      step (inl b) = (lists_total int_cmp_total).trans first second lead b h
      step (inr (inl e)) = ap (λ x. slice_cmp int_cmp x lead) e ∙ h
      step (inr (inr b)) = absurd (order (below_take (length lead) t s b))

  pub greater_on : leading s lead ≡ Greater → leading t lead ≡ Greater
  greater_on h = step (cases_tuple first second)
    where
      step : Below first second ⊎ ((first ≡ second) ⊎ Below second first) → leading t lead ≡ Greater
      step (inl b) = (lists_total int_cmp_total).antisymm second lead ∙ ap ordering_reverse ((lists_total int_cmp_total).trans lead first second ((lists_total int_cmp_total).antisymm lead first ∙ ap ordering_reverse h) b)
      step (inr (inl e)) = ap (λ x. slice_cmp int_cmp x lead) (sym e) ∙ h
      step (inr (inr b)) = absurd (order (below_take (length lead) t s b))
