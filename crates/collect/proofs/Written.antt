-- An area that is written from its start on, one entry after the other.
use Rattle.std.proofs.Common.{◌≡◌, ℕ, suc, ◌+◌, ◌<◌, List, [], ◌∷◌, ◌++◌, length, get_or, take, drop, set, subst, append_assoc, add-one, drop-cons}
use lib.Seq.{set-append_seam, take-append_seam, drop-append_seam}

-- the entry behind xs is written
pub written : {X : Type 0} (xs ys : List X) (u : ℕ) (w : X) → length xs ≡ u → u < length ys → set (xs ++ drop u ys) u w ≡ (xs ++ (w ∷ [])) ++ drop (u + 1) ys
written xs ys u w n lt =
    rw (add-one, append_assoc, drop-cons ys u w lt) (subst (λ i. set (xs ++ (get_or ys u w ∷ drop (suc u) ys)) i w ≡ xs ++ (w ∷ drop (suc u) ys)) n (set-append_seam xs (get_or ys u w) (drop (suc u) ys) w))

pub take_front : {X : Type 0} (n : ℕ) (xs ys : List X) → length xs ≡ n → take n (xs ++ ys) ≡ xs
take_front n xs ys e = subst (λ k. take k (xs ++ ys) ≡ xs) e (take-append_seam xs ys)

pub drop_front : {X : Type 0} (n : ℕ) (xs ys : List X) → length xs ≡ n → drop n (xs ++ ys) ≡ ys
drop_front n xs ys e = subst (λ k. drop k (xs ++ ys) ≡ ys) e (drop-append_seam xs ys)
