-- Values picked one after the other.
use Rattle.std.proofs.Common.{◌≡◌, ℕ, zero, suc, ◌+◌, ◌<◌, ◌≤◌, min, List, [], ◌∷◌, ◌++◌, length, get_or, take, set, ℤ, pos, sym, refl, ap, ◌∙◌, ap₂, arith}
use lib.ListN.{length-map}
use Rattle.std.proofs.lemmas.List.{length-take-le, map_more, take-map}
use Rattle.relation.specs.Sets.{Tuple, column}
use Rattle.relation.specs.Operations.{picked}
use Rattle.relation.specs.Stored.{firsts}

-- one element more is written over the padding
pub firsts_push : {X : Type 0} (n : ℕ) (xs : List X) (d v : X) (i : ℕ) → length xs ≡ i → i < n → set (firsts n xs d) i v ≡ firsts n (xs ++ v ∷ []) d
firsts_push zero xs d v i e lt = absurd (omega arith)
firsts_push (suc n) [] d v zero e lt = refl
firsts_push (suc n) [] d v (suc i) e lt = absurd (omega arith)
firsts_push (suc n) (x ∷ xs) d v zero e lt = absurd (omega arith)
firsts_push (suc n) (x ∷ xs) d v (suc i) e lt = ap (λ l. x ∷ l) (firsts_push n xs d v i (omega arith) (omega arith))

-- the first n do not see what is cut off behind them
pub firsts_take : {X : Type 0} (n k : ℕ) (xs : List X) (d : X) → min (length xs) n ≤ k → firsts n (take k xs) d ≡ firsts n xs d
firsts_take zero k xs d h = refl
firsts_take (suc n) zero [] d h = refl
firsts_take (suc n) zero (x ∷ xs) d h = absurd (omega arith)
firsts_take (suc n) (suc k) [] d h = refl
firsts_take (suc n) (suc k) (x ∷ xs) d h = ap (λ ys. x ∷ ys) (firsts_take n k xs d (omega arith))

module _ (n : ℕ) (by : List ℕ) (t : Tuple) where
  pub picked_more : (i : ℕ) (vs : Tuple) (z : ℤ) → i < length by → i < n → vs ≡ firsts n (picked (take i by) t) (pos 0) → z ≡ column (get_or by i 0) t → set vs i z ≡ firsts n (picked (take (i + 1) by) t) (pos 0)
  picked_more i vs z lt few e is =
      let long : length (picked (take i by) t) ≡ i = length-map (take i by) (λ c. column c t) ∙ length-take-le i by (omega arith) in
      ap₂ (λ us x. set us i x) e is
      ∙ firsts_push n (picked (take i by) t) (pos 0) (column (get_or by i 0) t) i long few
      ∙ ap (λ us. firsts n us (pos 0)) (sym (map_more (λ c. column c t) by i 0 lt))

  pub picked_all : (i : ℕ) → min (length by) n ≤ i → firsts n (picked (take i by) t) (pos 0) ≡ firsts n (picked by t) (pos 0)
  picked_all i h = ap (λ us. firsts n us (pos 0)) (sym (take-map (λ c. column c t) i by)) ∙ firsts_take n i (picked by t) (pos 0) (omega (arith, length-map by (λ c. column c t)))
