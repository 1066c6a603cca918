-- A word's value and its eight bytes, the highest first, as the code has them.
use Rattle.std.proofs.Common.{◌≡◌, ℕ, ◌+◌, ◌-◌, ◌*◌, ◌/◌, ◌%◌, Bool, true, false, List, [], ◌∷◌, ◌++◌, length, get_or, take, drop, replicate, ℤ, pos, Some, None, Decides, Option, sym, refl, ap, ◌∙◌, subst, div-one, arith, w64, SFits, to_z, of_z, int_eq}
use Rattle.std.specs.Option.{option_eq}
use Rattle.std.proofs.lemmas.Bool.Decides.{Decides-int_eq}
use Rattle.std.proofs.lemmas.Int.{to_z_pos, to_z-of_z}
use Rattle.std.proofs.lemmas.List.{drop-replicate}
use Rattle.std.proofs.lemmas.Bool.{both_ways}
use Rattle.relation.specs.Values.{is_word, digits, word, lowest, front, word_value, word_text}
use Rattle.relation.proofs.ByteLoops.{digits_place, digits_padded, take_front}
use Rattle.relation.proofs.Spelled.{spelling_word, word_below, value_from_word, word_from_text, words_inverse}

-- the number that eight bytes are
abbrev eight : List ℕ → ℕ
eight s = get_or s 0 0 * 72057594037927936 + get_or s 1 0 * 281474976710656 + get_or s 2 0 * 1099511627776 + get_or s 3 0 * 4294967296 + get_or s 4 0 * 16777216 + get_or s 5 0 * 65536 + get_or s 6 0 * 256 + get_or s 7 0

eight_digits : (s : List ℕ) → eight s ≡ digits 8 s
eight_digits s =
    omega (arith, digits_place 7 s 0, digits_place 6 s 1, digits_place 5 s 2, digits_place 4 s 3, digits_place 3 s 4, digits_place 2 s 5, digits_place 1 s 6, digits_place 0 s 7)

-- the word s, copied over zeros
pub value_read : (s q : List ℕ) (j : ℕ) (z : ℤ) → is_word s ≡ true → q ≡ s → z ≡ to_z w64 (eight (q ++ drop j (replicate 8 0))) → Some (to_z w64 (of_z w64 z)) ≡ word_value s
value_read s q j z h e v =
    ap (λ (x : ℤ). Some (to_z w64 (of_z w64 x))) (v ∙ ap (to_z w64) number ∙ plain)
    ∙ ap Some plain ∙ sym (value_from_word s h)
  where
    number : eight (q ++ drop j (replicate 8 0)) ≡ word s
    number =
        eight_digits (q ++ drop j (replicate 8 0)) ∙ ap (λ (r : List ℕ). digits 8 (r ++ drop j (replicate 8 0))) e
        ∙ ap (λ (r : List ℕ). digits 8 (s ++ r)) (drop-replicate j 8 0) ∙ digits_padded 8 (8 - j) s

    plain : to_z w64 (word s) ≡ pos (word s)
    plain = to_z_pos w64 (word s) (word_below s h)

-- the eight bytes of a number
abbrev bytes : ℕ → List ℕ
bytes n = (n / 72057594037927936 % 256) ∷ (n / 281474976710656 % 256) ∷ (n / 1099511627776 % 256) ∷ (n / 4294967296 % 256) ∷ (n / 16777216 % 256) ∷ (n / 65536 % 256) ∷ (n / 256 % 256) ∷ (n % 256) ∷ []

bytes_lowest : (n : ℕ) → bytes n ≡ lowest 8 n
bytes_lowest n =
    ap (λ (m : ℕ). (n / 72057594037927936 % 256) ∷ (n / 281474976710656 % 256) ∷ (n / 1099511627776 % 256) ∷ (n / 4294967296 % 256) ∷ (n / 16777216 % 256) ∷ (n / 65536 % 256) ∷ (n / 256 % 256) ∷ (m % 256) ∷ []) (sym (div-one n))

some_decides : (o : Option ℤ) (z : ℤ) (r : Bool) → r ≡ option_eq int_eq o (Some z) → Decides r (o ≡ Some z)
some_decides None z r h = (λ e. absurd (both_ways r h e), λ e. absurd (let w : ◌≡◌ {A = ℕ} 0 1 = cc in omega arith))
some_decides (Some x) z r h =
    let d = Decides-int_eq x z in
    (λ e. ap Some (d.0 (sym h ∙ e)), λ e. h ∙ d.1 (cc))

-- the first bytes of s, len of them, are read as o, and r tells whether that is z
module _ (z : ℤ) (s : List ℕ) (len : ℕ) (o : Option ℤ) (r : Bool) (fits : SFits w64 z) (b : len ≡ length (front s)) (d : o ≡ word_value (take len s)) (same : r ≡ option_eq int_eq o (Some (to_z w64 (of_z w64 z)))) where
  taken : take len s ≡ front s
  taken = ap (λ (n : ℕ). take n s) b ∙ take_front s

  read : word_value (front s) ≡ o
  read = sym (d ∙ ap word_value taken)

  told : Decides r (o ≡ Some z)
  told = subst (λ (x : ℤ). Decides r (o ≡ Some x)) (to_z-of_z w64 z fits) (some_decides o (to_z w64 (of_z w64 z)) r same)

  pub text_found : r ≡ true → Some (take len s) ≡ word_text z
  text_found e = ap Some taken ∙ sym ((words_inverse.inverse (front s) z).0 (read ∙ told.0 e))

  pub text_none : r ≡ false → s ≡ bytes (of_z w64 (to_z w64 (of_z w64 z))) → None ≡ word_text z
  text_none f e = none (word_text z) refl
    where
      none : (t : Option (List ℕ)) → word_text z ≡ t → None ≡ t
      none None h = refl
      none (Some bs) h =
          let w = word_from_text z bs h in
          let plain = to_z-of_z w64 z fits ∙ w.1 in
          let spelt : front s ≡ bs = ap front (e ∙ bytes_lowest _ ∙ ap (λ (x : ℤ). lowest 8 (of_z w64 x)) plain) ∙ spelling_word bs w.0 in
          absurd (both_ways r f (told.1 (sym read ∙ ap word_value spelt ∙ value_from_word bs w.0 ∙ ap Some (sym w.1))))
