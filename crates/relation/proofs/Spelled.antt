-- Words and the numbers that they are held as: the digits of a word spell it again.
use Rattle.std.specs.List.{list_all}
use Rattle.std.proofs.Common.{◌≡◌, ℕ, zero, suc, ◌+◌, ◌*◌, ◌/◌, ◌%◌, ◌^◌, ◌<◌, ◌≤◌, Bool, true, false, cond, ◌&&◌, eqb, leb, List, [], ◌∷◌, length, ℤ, pos, negsuc, Some, None, sym, refl, ap, ◌∙◌, subst, mod-eq_of_lt, mul_assoc, pow-suc, arith}
use native.Mathlib.Nat.{pow-succ', zero-div, mul-add-div_right, mul-add-mod_self_right}
use lib.Arith.{digits_lt, digits_div}
use Rattle.std.proofs.lemmas.Bool.{and_parts, and_from, leb-true, eqb-true, eq-eqb, ne_eqb, cond-true, cond-false}
use Rattle.std.proofs.lemmas.Bool.Decides.{nat_tests}
use Rattle.relation.specs.Bounds.{word_bytes}
use Rattle.relation.specs.Values.{word_byte, is_word, digits, word, lowest, front, spelling, Word, word_value, word_text, WordsInverse}

pub word_byte_bounds : (b : ℕ) → word_byte b ≡ true → (0 < b) × (b < 128)
word_byte_bounds b h = grind (arith, nat_tests)

unit_pos : (k : ℕ) → 0 < 256 ^ k
unit_pos zero = omega arith
unit_pos (suc k) = omega (arith, pow-suc 256 k, unit_pos k)

pub digits_below : (k : ℕ) (bs : List ℕ) → list_all word_byte bs ≡ true → digits k bs < 256 ^ k
digits_below zero bs h = omega arith
digits_below (suc k) [] h = unit_pos (suc k)
digits_below (suc k) (b ∷ bs) h =
    let p = and_parts (word_byte b) (list_all word_byte bs) h in
    let q = word_byte_bounds b p.0 in
    let s : b < 256 = omega arith in
    subst (λ (m : ℕ). b * 256 ^ k + digits k bs < m) (sym (pow-succ' 256 k)) (digits_lt s (digits_below k bs p.1))

-- higher digits do not matter to the lowest
lowest_high : (k q m : ℕ) → lowest k (q * 256 ^ k + m) ≡ lowest k m
lowest_high zero q m = refl
lowest_high (suc k) q m =
    ap (lowest (suc k)) whole ∙ (λ i. digit i ∷ lowest_high k (q * 256) m i)
  where
    whole : q * 256 ^ suc k + m ≡ q * 256 * 256 ^ k + m
    whole = ap (λ (x : ℕ). q * x + m) (pow-succ' 256 k) ∙ ap (λ (x : ℕ). x + m) (sym (mul_assoc q 256 (256 ^ k)))

    digit : (q * 256 * 256 ^ k + m) / 256 ^ k % 256 ≡ m / 256 ^ k % 256
    digit = ap (λ (x : ℕ). x % 256) (mul-add-div_right (unit_pos k) (q * 256) m) ∙ mul-add-mod_self_right q 256 (m / 256 ^ k)

spelling_digits : (k : ℕ) (bs : List ℕ) → list_all word_byte bs ≡ true → length bs ≤ k → front (lowest k (digits k bs)) ≡ bs
spelling_digits zero [] h l = refl
spelling_digits zero (b ∷ bs) h l = absurd (omega arith)
spelling_digits (suc k) [] h l =
    ap (λ (d : ℕ). cond (eqb (d % 256) 0) [] (d % 256 ∷ front (lowest k 0))) (zero-div (256 ^ k))
spelling_digits (suc k) (b ∷ bs) h l =
    let p = and_parts (word_byte b) (list_all word_byte bs) h in
    let q = word_byte_bounds b p.0 in
    let s : b < 256 = omega arith in
    let below = digits_below k bs p.1 in
    let digit : (b * 256 ^ k + digits k bs) / 256 ^ k % 256 ≡ b = ap (λ (x : ℕ). x % 256) (digits_div b below) ∙ mod-eq_of_lt s in
    let rest : front (lowest k (b * 256 ^ k + digits k bs)) ≡ bs = ap front (lowest_high k b (digits k bs)) ∙ spelling_digits k bs p.1 (omega arith) in
    (λ i. cond (eqb (digit i) 0) [] (digit i ∷ rest i)) ∙ cond-false (eqb b 0) [] (b ∷ bs) (ne_eqb b 0 (omega arith))

-- ---- of a word

pub record Parts (bs : List ℕ) : Type 0 where
  pub some : 1 ≤ length bs
  pub few : length bs ≤ word_bytes
  pub bytes : list_all word_byte bs ≡ true

pub word_parts : (bs : List ℕ) → is_word bs ≡ true → Parts bs
word_parts bs h =
    let p = and_parts (leb 1 (length bs)) (leb (length bs) word_bytes && list_all word_byte bs) h in
    let q = and_parts (leb (length bs) word_bytes) (list_all word_byte bs) p.1 in
    record { some = leb-true 1 (length bs) p.0; few = leb-true (length bs) word_bytes q.0; bytes = q.1 }

pub spelling_word : (bs : List ℕ) → is_word bs ≡ true → spelling (word bs) ≡ bs
spelling_word bs h = let p = word_parts bs h in spelling_digits word_bytes bs p.bytes p.few

-- the number of a word fits a signed number of 64 bits
pub word_below : (bs : List ℕ) → is_word bs ≡ true → word bs < 2 ^ 63
word_below [] h = absurd (omega (arith, (word_parts [] h).some))
word_below (b ∷ bs) h =
    let p = and_parts (word_byte b) (list_all word_byte bs) (word_parts (b ∷ bs) h).bytes in
    digits_lt (word_byte_bounds b p.0).1 (digits_below 7 bs p.1)

-- ---- reading and writing

some_from_cond : {X : Type 0} (t : Bool) (x y : X) → cond t (Some x) None ≡ Some y → (t ≡ true) × (x ≡ y)
some_from_cond true x y e = (refl, cc)
some_from_cond false x y e = absurd (let z : ◌≡◌ {A = ℕ} 0 1 = cc in omega arith)

pub text_from_word : (bs : List ℕ) → is_word bs ≡ true → word_text (pos (word bs)) ≡ Some bs
text_from_word bs h =
    ap (λ (s : List ℕ). cond (is_word s && eqb (word s) (word bs)) (Some s) None) (spelling_word bs h)
    ∙ cond-true _ (Some bs) None (and_from (is_word bs) (eqb (word bs) (word bs)) h (eq-eqb (word bs) (word bs) refl))

pub word_from_text : (z : ℤ) (bs : List ℕ) → word_text z ≡ Some bs → (is_word bs ≡ true) × (z ≡ pos (word bs))
word_from_text (pos n) bs e =
    let p = some_from_cond (is_word (spelling n) && eqb (word (spelling n)) n) (spelling n) bs e in
    let q = and_parts (is_word (spelling n)) (eqb (word (spelling n)) n) p.0 in (
      subst (λ (s : List ℕ). is_word s ≡ true) p.1 q.0,
      ap pos (sym (eqb-true (word (spelling n)) n q.1) ∙ ap word p.1),
    )
word_from_text (negsuc n) bs e = absurd (let z : ◌≡◌ {A = ℕ} 0 1 = cc in omega arith)

pub value_from_word : (bs : List ℕ) → is_word bs ≡ true → word_value bs ≡ Some (pos (word bs))
value_from_word bs h = cond-true (is_word bs) (Some (pos (word bs))) None h

pub words_inverse : WordsInverse
words_inverse = record { inverse = λ bs z. (to_text bs z, to_value bs z); each_word = λ bs h. (value_from_word bs h, text_from_word bs h); each_value = value; one_word = one }
  where
    to_text : (bs : List ℕ) (z : ℤ) → word_value bs ≡ Some z → word_text z ≡ Some bs
    to_text bs z e =
        let p = some_from_cond (is_word bs) (pos (word bs)) z e in
        subst (λ (x : ℤ). word_text x ≡ Some bs) p.1 (text_from_word bs p.0)

    to_value : (bs : List ℕ) (z : ℤ) → word_text z ≡ Some bs → word_value bs ≡ Some z
    to_value bs z e = let p = word_from_text z bs e in value_from_word bs p.0 ∙ ap Some (sym p.1)

    value : (z : ℤ) → Word z → (bs : List ℕ) × ((word_text z ≡ Some bs) × (word_value bs ≡ Some z))
    value z (bs, (h, e)) =
        let t = ap word_text e ∙ text_from_word bs h in
        (bs, (t, to_value bs z t))

    one : (bs cs : List ℕ) → is_word bs ≡ true → is_word cs ≡ true → word bs ≡ word cs → bs ≡ cs
    one bs cs h k e = sym (spelling_word bs h) ∙ ap spelling e ∙ spelling_word cs k
