-- Lemmas on the first few of a list.
use Rattle.std.proofs.Common.{◌≡◌, ℕ, zero, suc, ◌<◌, ◌≤◌, min, List, [], ◌∷◌, ◌++◌, length, get_or, set, take, drop, replicate, sym, refl, ap, ◌∙◌, ⊎_elim, arith}
use Rattle.std.proofs.lemmas.Bool.{cases_lt}
use Rattle.relation.specs.Stored.{firsts}

pub length_firsts : {X : Type 0} (n : ℕ) (xs : List X) (d : X) → length (firsts n xs d) ≡ n
length_firsts zero xs d = refl
length_firsts (suc n) [] d = ap suc (length_firsts n [] d)
length_firsts (suc n) (x ∷ xs) d = ap suc (length_firsts n xs d)

-- one element more is written over the padding
pub set_firsts : {X : Type 0} (n c : ℕ) (xs : List X) (d : X) → c < n → set (firsts n (firsts c xs d) d) c (get_or xs c d) ≡ firsts n (firsts (suc c) xs d) d
set_firsts zero c xs d h = absurd (omega arith)
set_firsts (suc n) zero [] d h = refl
set_firsts (suc n) zero (x ∷ xs) d h = refl
set_firsts (suc n) (suc c) [] d h = ap (λ ys. d ∷ ys) (set_firsts n c [] d (omega arith))
set_firsts (suc n) (suc c) (x ∷ xs) d h = ap (λ ys. x ∷ ys) (set_firsts n c xs d (omega arith))

-- the first n do not see where a longer part is cut
pub firsts_cut : {X : Type 0} (n c : ℕ) (xs : List X) (d : X) → n ≤ c → firsts n (firsts c xs d) d ≡ firsts n xs d
firsts_cut zero c xs d h = refl
firsts_cut (suc n) zero xs d h = absurd (omega arith)
firsts_cut (suc n) (suc c) [] d h = ap (λ ys. d ∷ ys) (firsts_cut n c [] d (omega arith))
firsts_cut (suc n) (suc c) (x ∷ xs) d h = ap (λ ys. x ∷ ys) (firsts_cut n c xs d (omega arith))

pub firsts_min : {X : Type 0} (n c : ℕ) (xs : List X) (d : X) → firsts n (firsts (min c n) xs d) d ≡ firsts n (firsts c xs d) d
firsts_min n c xs d = ⊎_elim
    (λ lt. let e : min c n ≡ c = omega arith in ap (λ k. firsts n (firsts k xs d) d) e)
    (λ le. let e : min c n ≡ n = omega arith in ap (λ k. firsts n (firsts k xs d) d) e ∙ firsts_cut n n xs d (omega arith) ∙ sym (firsts_cut n c xs d le))
    (cases_lt c n)

pub firsts_all : {X : Type 0} (xs : List X) (d : X) → firsts (length xs) xs d ≡ xs
firsts_all [] d = refl
firsts_all (x ∷ xs) d = ap (λ ys. x ∷ ys) (firsts_all xs d)

firsts_none : {X : Type 0} (n : ℕ) (d : X) → replicate n d ≡ firsts n [] d
firsts_none zero d = refl
firsts_none (suc n) d = ap (λ ys. d ∷ ys) (firsts_none n d)

-- the first c of a list, copied over the padding
pub firsts_copied : {X : Type 0} (n c : ℕ) (xs : List X) (d : X) → c ≤ n → c ≤ length xs → take c xs ++ drop c (replicate n d) ≡ firsts n (firsts c xs d) d
firsts_copied zero zero xs d h k = refl
firsts_copied zero (suc c) xs d h k = absurd (omega arith)
firsts_copied (suc n) zero xs d h k = firsts_none (suc n) d
firsts_copied (suc n) (suc c) [] d h k = absurd (omega arith)
firsts_copied (suc n) (suc c) (x ∷ xs) d h k = ap (λ ys. x ∷ ys) (firsts_copied n c xs d (omega arith) (omega arith))
