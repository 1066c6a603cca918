-- Reading a number digit by digit.
use Rattle.std.proofs.Common.{◌≡◌, ℕ, ◌+◌, ◌*◌, ◌^◌, ◌<◌, ◌≤◌, true, false, not, ◌&&◌, ◌||◌, eqb, leb, ◌⊎◌, List, [], ◌∷◌, length, get_or, drop, Some, None, Option, sym, refl, ap, ◌∙◌, inl, inr, pow-suc, add-one, arith, lit<}
use native.Mathlib.Nat.{pow-le-pow_right}
use Rattle.std.specs.Str.{all_ascii_digits}
use Rattle.std.specs.Char.{is_ascii_digit}
use Rattle.std.proofs.lemmas.List.{at_drop_more}
use Rattle.std.proofs.lemmas.Bool.{cond-true, cond-false, eq-eqb, ne_eqb, le-leb, and_right, and_from, or_left, or_right, not_from_false}
use Rattle.words.specs.Number.{read_on, plain, natural}

pub digits_more : (ds : List ℕ) (i : ℕ) → i < length ds → true ≡ is_ascii_digit (get_or ds i 0) → all_ascii_digits (drop i ds) ≡ all_ascii_digits (drop (i + 1) ds)
digits_more ds i h e = at_drop_more all_ascii_digits ds i 0 h ∙ ap (λ t. t && all_ascii_digits (drop (i + 1) ds)) (sym e)

pub digits_stop : (ds : List ℕ) (i : ℕ) → i < length ds → false ≡ is_ascii_digit (get_or ds i 0) → all_ascii_digits (drop i ds) ≡ false
digits_stop ds i h e = at_drop_more all_ascii_digits ds i 0 h ∙ ap (λ t. t && all_ascii_digits (drop (i + 1) ds)) (sym e)

pub not_plain : (ds : List ℕ) → all_ascii_digits ds ≡ false → plain ds ≡ false
not_plain [] e = refl
not_plain (c ∷ cs) e = and_right (leb (length cs) 12) _ (and_right (not (eqb c 48) || eqb (length cs) 0) _ e)

pub is_plain : (ds : List ℕ) → 0 < length ds → length ds ≤ 13 → (length ds ≤ 1) ⊎ (get_or ds 0 0 ≡ 48 → ⊥) → all_ascii_digits ds ≡ true → plain ds ≡ true
is_plain [] some le z e = absurd (omega arith)
is_plain (c ∷ cs) some le (inl one) e = and_from _ _ (le-leb _ _ (omega arith)) (and_from _ _ (or_right (not (eqb c 48)) _ (eq-eqb _ _ (omega arith))) e)
is_plain (c ∷ cs) some le (inr ne) e = and_from _ _ (le-leb _ _ (omega arith)) (and_from _ _ (or_left _ _ (not_from_false _ (ne_eqb _ _ ne))) e)

pub refused : (ds : List ℕ) → plain ds ≡ false → ◌≡◌ {A = Option ℕ} None (natural ds)
refused ds e = sym (cond-false (plain ds) _ _ e)

pub read : (ds : List ℕ) (n : ℕ) → plain ds ≡ true → n ≡ read_on 0 ds → Some n ≡ natural ds
read ds n e v = ap (λ k. Some k) v ∙ sym (cond-true (plain ds) _ _ e)

pub one_digit_more : (n d i : ℕ) → n < 10 ^ i → d ≤ 9 → n * 10 + d < 10 ^ (i + 1)
one_digit_more n d i h l = let e : 10 ^ (i + 1) ≡ 10 ^ i * 10 = ap (λ k. 10 ^ k) (add-one i) ∙ pow-suc 10 i in omega arith

pub short : (n i : ℕ) → n < 10 ^ i → i ≤ 13 → n < 10 ^ 13
short n i h l = let m : 10 ^ i ≤ 10 ^ 13 = pow-le-pow_right (lit< tt) l in omega arith
