-- The bytes before a zero, one byte on; the digits of padded bytes.
use Rattle.std.proofs.Common.{◌≡◌, ℕ, zero, suc, ◌+◌, ◌*◌, ◌^◌, Bool, true, false, cond, eqb, List, [], ◌∷◌, ◌++◌, length, get_or, take, drop, replicate, refl, ap, ◌∙◌, zero-mul, arith}
use Rattle.std.proofs.lemmas.Bool.{eq-eqb, ne_eqb, cond-true, cond-false}
use Rattle.relation.specs.Values.{digits, front}

pub front_hit : (b : ℕ) (s : List ℕ) → b ≡ 0 → length (front (b ∷ s)) ≡ 0
front_hit b s e = ap length (cond-true _ [] _ (eq-eqb b 0 e))

pub front_miss : (b : ℕ) (s : List ℕ) → (b ≡ 0 → ⊥) → length (front (b ∷ s)) ≡ length (front s) + 1
front_miss b s ne = ap length (cond-false _ [] _ (ne_eqb b 0 ne)) ∙ omega arith

pub take_front : (s : List ℕ) → take (length (front s)) s ≡ front s
take_front [] = refl
take_front (b ∷ s) = step (eqb b 0) (take_front s)
  where
    step : (t : Bool) → take (length (front s)) s ≡ front s → take (length (cond t [] (b ∷ front s))) (b ∷ s) ≡ cond t [] (b ∷ front s)
    step true h = refl
    step false h = ap (λ (r : List ℕ). b ∷ r) h

-- ---- digits by place

digits_none : (k : ℕ) → digits k [] ≡ 0
digits_none zero = refl
digits_none (suc k) = refl

pub digits_place : (k : ℕ) (s : List ℕ) (i : ℕ) → digits (suc k) (drop i s) ≡ get_or s i 0 * 256 ^ k + digits k (drop (suc i) s)
digits_place k [] zero = omega (arith, digits_none k, zero-mul (256 ^ k))
digits_place k [] (suc i) = omega (arith, digits_none k, zero-mul (256 ^ k))
digits_place k (b ∷ s) zero = refl
digits_place k (b ∷ s) (suc i) = digits_place k s i

-- zeros at the end do not matter
pub digits_padded : (k j : ℕ) (s : List ℕ) → digits k (s ++ replicate j 0) ≡ digits k s
digits_padded zero j s = refl
digits_padded (suc k) zero [] = refl
digits_padded (suc k) (suc j) [] = omega (arith, zero-mul (256 ^ k), digits_padded k j [], digits_none k)
digits_padded (suc k) j (b ∷ s) = ap (λ (m : ℕ). b * 256 ^ k + m) (digits_padded k j s)
