-- Which words are which tokens.
use Rattle.std.proofs.Common.{◌≡◌, ℕ, ◌+◌, ◌-◌, ◌<◌, ◌≤◌, true, false, cond, not, ◌&&◌, ◌||◌, eqb, leb, [], ◌∷◌, ◌++◌, length, get_or, take, ℤ, pos, neg_ℤ, Some, None, Option, sym, refl, ap, ◌∙◌, subst, inl, inr, ⊎_elim, arith}
use Rattle.std.specs.Option.{option_map}
use Rattle.std.specs.Char.{is_ascii_digit, is_ascii_lowercase}
use Rattle.std.specs.Str.{all_ascii_digits}
use Rattle.std.proofs.lemmas.List.{take_more, take_all, take_at, get_or_at, get_or_past, length_push}
use Rattle.std.proofs.lemmas.Bool.{cond-true, cond-false, cond_both, eq-eqb, ne_eqb, eqb-true, eqb-false, leb-true, le-leb, cases_Bool, cases_eq, and_parts, and_from, or_left, or_right, or_cases, not-true}
use Rattle.std.proofs.lemmas.Bool.Decides.{nat_tests}
use Rattle.relation.specs.Values.{is_word}
use Rattle.words.specs.declared.tokens.Position.{Position}
use Rattle.words.specs.declared.tokens.Position.TheVariants as position
use Rattle.relation.specs.declared.conditions.Sign.{Sign}
use Rattle.relation.specs.declared.conditions.Sign.TheVariants.{Equal, NotEqual, Less, LessEqual, Greater, GreaterEqual}
use Rattle.words.specs.Number.{number, natural, plain, plus, minus, read_on}
use Rattle.words.specs.Name.{is_name}
use Rattle.words.specs.Token.{Tok, name, numeral, quoted, column, sign, token, quotation, column_of, sign_of, sign_byte, word_at}
use Rattle.takers.specs.Take.{Text}
use Rattle.takers.specs.Writing.{Numeral, WritesNumber, Name, WritesColumn, spelled_sign}
use Rattle.words.proofs.Numeric.{is_plain}
use Rattle.std.proofs.lemmas.Option.{same_Some, cond_some}
use Rattle.takers.proofs.Options.{absent}

-- ---- numbers

plain_numeral : (ds : Text) → plain ds ≡ true → Numeral ds
plain_numeral [] e = let z : ◌≡◌ {A = ℕ} 0 1 = cc in absurd (omega arith)
plain_numeral (c ∷ cs) e =
    let p = and_parts (leb (length cs) 12) _ e in
    let q = and_parts (not (eqb c 48) || eqb (length cs) 0) _ p.1 in
    let few = leb-true _ _ p.0 in
    record {
      some = omega arith;
      few = omega arith;
      digits = q.1;
      leading = ⊎_elim (λ n. inr (eqb-false _ _ (not-true _ n))) (λ t. let o = eqb-true _ _ t in inl (omega arith)) (or_cases (not (eqb c 48)) _ q.0);
    }

numeral_plain : (ds : Text) → Numeral ds → plain ds ≡ true
numeral_plain ds n = is_plain ds n.some n.few (⊎_elim (λ one. inl (omega arith)) (λ ne. inr ne) n.leading) n.digits

natural_told : (ds : Text) (n : ℕ) → natural ds ≡ Some n → Numeral ds × (read_on 0 ds ≡ n)
natural_told ds n e = let h = cond_some (plain ds) (read_on 0 ds) n e in (plain_numeral ds h.0, h.1)

natural_is : (ds : Text) → Numeral ds → natural ds ≡ Some (read_on 0 ds)
natural_is ds n = cond-true (plain ds) _ _ (numeral_plain ds n)

plus_told : (ds : Text) (o : Option ℕ) (z : ℤ) → natural ds ≡ o → plus o ≡ Some z → Numeral ds × (z ≡ pos (read_on 0 ds))
plus_told ds None z h e = absent z e
plus_told ds (Some n) z h e = let t = natural_told ds n h in (t.0, sym (ap pos t.1 ∙ same_Some _ _ e))

minus_told : (ds : Text) (o : Option ℕ) (z : ℤ) → natural ds ≡ o → minus o ≡ Some z → Numeral ds × (0 < read_on 0 ds) × (z ≡ neg_ℤ (pos (read_on 0 ds)))
minus_told ds None z h e = absent z e
minus_told ds (Some n) z h e =
    let t = natural_told ds n h in
    ⊎_elim
    (λ q. absent z (sym (cond-true (eqb n 0) None (Some (neg_ℤ (pos n))) q) ∙ e))
    (λ q. let ne = eqb-false n 0 q in let v = t.1 in let lt : 0 < read_on 0 ds = ⊎_elim (λ zero. absurd (ne zero)) (λ nz. omega arith) (cases_eq n 0) in (t.0, lt, sym (ap (λ k. neg_ℤ (pos k)) t.1 ∙ same_Some _ _ (sym (cond-false (eqb n 0) None (Some (neg_ℤ (pos n))) q) ∙ e))))
    (cases_Bool (eqb n 0))

pub number_told : (w : Text) (z : ℤ) → number w ≡ Some z → WritesNumber w z
number_told [] z e = absent z e
number_told (c ∷ cs) z e =
    ⊎_elim
    (λ t. let h = minus_told cs (natural cs) z refl (sym (cond-true (eqb c 45) (minus (natural cs)) (plus (natural (c ∷ cs))) t) ∙ e) in inr (cs, ap (λ b. b ∷ cs) (eqb-true _ _ t), h.0, h.1, h.2))
    (λ f. inl (plus_told (c ∷ cs) (natural (c ∷ cs)) z refl (sym (cond-false (eqb c 45) (minus (natural cs)) (plus (natural (c ∷ cs))) f) ∙ e)))
    (cases_Bool (eqb c 45))

first_digit : (c : ℕ) (cs : Text) → all_ascii_digits (c ∷ cs) ≡ true → (48 ≤ c) × (is_ascii_digit c ≡ true)
first_digit c cs e = let p = and_parts (is_ascii_digit c) _ e in (leb-true 48 c (and_parts (leb 48 c) _ p.0).0, p.0)

pub number_is : (w : Text) (z : ℤ) → WritesNumber w z → number w ≡ Some z
number_is [] z (inl h) = let n = h.0.some in absurd (omega arith)
number_is (c ∷ cs) z (inl h) =
    let d = (first_digit c cs h.0.digits).0 in
    cond-false (eqb c 45) _ _ (ne_eqb _ _ (λ e. omega arith)) ∙ ap plus (natural_is (c ∷ cs) h.0) ∙ ap (λ x. Some x) (sym h.1)
number_is w z (inr h) =
    let pos_value = h.3 in
    ap number h.1 ∙ ap minus (natural_is h.0 h.2) ∙ cond-false (eqb (read_on 0 h.0) 0) _ _ (ne_eqb _ _ (λ e. omega arith)) ∙ ap (λ x. Some x) (sym h.4)

-- a number begins with a minus sign or a digit
number_first : (c : ℕ) (cs : Text) (z : ℤ) → WritesNumber (c ∷ cs) z → (39 < c) × ((eqb c 45 || is_ascii_digit c) ≡ true)
number_first c cs z (inl h) = let d = first_digit c cs h.0.digits in let le = d.0 in (omega arith, or_right (eqb c 45) _ d.1)
number_first c cs z (inr h) = let e : c ≡ 45 = cc h.1 in (omega arith, or_left _ _ (eq-eqb _ _ e))

pub number_token : (p : Position) (w : Text) (z : ℤ) → WritesNumber w z → token p w ≡ Some (numeral z)
number_token p [] z h = absent z (number_is [] z h)
number_token p (c ∷ cs) z h =
    let k = number_first c cs z h in
    let big = k.0 in
    cond-false (eqb c 39) _ _ (ne_eqb _ _ (λ e. omega arith)) ∙ cond-true (eqb c 45 || is_ascii_digit c) _ _ k.1 ∙ ap (option_map (λ v. numeral v)) (number_is (c ∷ cs) z h)

-- ---- quoted words

pub quoted_told : (bs q : Text) → quotation bs ≡ Some (quoted q) → (bs ≡ q ++ 39 ∷ []) × (is_word q ≡ true)
quoted_told bs q e =
    let n = length bs - 1 in
    let h = cond_some (eqb (get_or bs n 0) 39 && is_word (take n bs)) (quoted (take n bs)) (quoted q) e in
    let p = and_parts (eqb (get_or bs n 0) 39) _ h.0 in
    let last = eqb-true _ _ p.0 in
    let same : take n bs ≡ q = cc h.1 in
    let some : 1 ≤ length bs = ⊎_elim (λ none. let past = get_or_past bs n 0 (omega arith) in absurd (omega arith)) (λ ne. omega arith) (cases_eq (length bs) 0) in
    let back : n + 1 ≡ length bs = omega arith in
    (sym (take_all (n + 1) bs (omega arith)) ∙ take_more bs n 0 (omega arith) ∙ ap (λ b. take n bs ++ b ∷ []) last ∙ ap (λ l. l ++ 39 ∷ []) same, subst (λ l. is_word l ≡ true) same p.1)

pub quoted_token : (p : Position) (q : Text) → is_word q ≡ true → token p (39 ∷ (q ++ 39 ∷ [])) ≡ Some (quoted q)
quoted_token p q h =
    let n : length (q ++ 39 ∷ []) - 1 ≡ length q = (let l = length_push q 39 in omega arith) in
    ap (λ k. cond (eqb (get_or (q ++ 39 ∷ []) k 0) 39 && is_word (take k (q ++ 39 ∷ []))) (Some (quoted (take k (q ++ 39 ∷ [])))) None) n
    ∙ cond-true (eqb (get_or (q ++ 39 ∷ []) (length q) 0) 39 && is_word (take (length q) (q ++ 39 ∷ []))) _ _
    (and_from _ _ (eq-eqb _ _ (get_or_at q 39 [] 0 (length q) refl)) (ap is_word (take_at q (39 ∷ []) (length q) refl) ∙ h))
    ∙ ap (λ l. Some (quoted l)) (take_at q (39 ∷ []) (length q) refl)

-- ---- signs

pub sign_told : (w : Text) (s : Sign) → sign_of w ≡ Some s → w ≡ spelled_sign s
sign_told [] s e = absent s e
sign_told (b ∷ []) s e = grind (arith, nat_tests)
sign_told (b ∷ c ∷ []) s e = grind (arith, nat_tests)
sign_told (b ∷ c ∷ d ∷ w) s e = absent s e

pub sign_token : (p : Position) (s : Sign) → token p (spelled_sign s) ≡ Some (sign s)
sign_token p Equal = refl
sign_token p NotEqual = refl
sign_token p Less = refl
sign_token p LessEqual = refl
sign_token p Greater = refl
sign_token p GreaterEqual = refl

-- ---- columns

pub column_told : (w : Text) (k : ℕ) → column_of w ≡ Some (column k) → WritesColumn w k
column_told [] k e = absent (column k) e
column_told (a ∷ []) k e = absent (column k) e
column_told (a ∷ b ∷ []) k e =
    let h = cond_some (eqb a 99 && (leb 49 b && leb b 54)) (column (b - 48)) (column k) e in
    let p = and_parts (eqb a 99) _ h.0 in
    let q = and_parts (leb 49 b) _ p.1 in
    let low = leb-true _ _ q.0 in
    let high = leb-true _ _ q.1 in
    let v : b - 48 ≡ k = cc h.1 in
    let d : b ≡ 48 + k = omega arith in
    ((λ i. eqb-true _ _ p.0 i ∷ d i ∷ []), omega arith, omega arith)
column_told (a ∷ b ∷ c ∷ w) k e =
    let h = cond_some (eqb (length (a ∷ b ∷ c ∷ w)) 2 && (eqb a 99 && (leb 49 b && leb b 54))) (column (b - 48)) (column k) e in
    let n = eqb-true _ _ (and_parts (eqb (length (a ∷ b ∷ c ∷ w)) 2) _ h.0).0 in
    absurd (omega arith)

pub column_token : (w : Text) (k : ℕ) → WritesColumn w k → token position.Column w ≡ Some (column k)
column_token w k h =
    let low = h.1 in
    let high = h.2 in
    let back : 48 + k - 48 ≡ k = omega arith in
    ap (token position.Column) h.0
    ∙ cond-true (leb 49 (48 + k) && leb (48 + k) 54) _ _ (and_from _ _ (le-leb 49 (48 + k) (omega arith)) (le-leb (48 + k) 54 (omega arith)))
    ∙ ap (λ n. Some (column n)) back

-- ---- names

-- a name's first byte is a letter
letter_first : (w : Text) → Name w → (1 ≤ length w) × (97 ≤ get_or w 0 0)
letter_first w e =
    let p = and_parts (leb 1 (length w)) _ e in
    let q = and_parts (leb (length w) 8) _ p.1 in
    let r = and_parts (is_ascii_lowercase (get_or w 0 0)) _ q.1 in
    (leb-true _ _ p.0, leb-true _ _ (and_parts (leb 97 (get_or w 0 0)) _ r.0).0)

not_digit : (c : ℕ) → 97 ≤ c → (eqb c 45 || is_ascii_digit c) ≡ false
not_digit c h = grind (arith, ne_eqb)

not_sign : (c : ℕ) → 97 ≤ c → sign_byte c ≡ false
not_sign c h = grind (arith, ne_eqb)

pub name_token : (w : Text) → Name w → token position.Name w ≡ Some (name w)
name_token [] e = let h = letter_first [] e in let l = h.0 in absurd (omega arith)
name_token (c ∷ cs) e =
    let h : 97 ≤ c = (letter_first (c ∷ cs) e).1 in
    cond-false (eqb c 39) _ _ (ne_eqb _ _ (λ x. omega arith))
    ∙ cond-false (eqb c 45 || is_ascii_digit c) _ _ (not_digit c h)
    ∙ cond-false (sign_byte c) _ _ (not_sign c h)
    ∙ cond-true (is_name (c ∷ cs)) _ _ e

-- ---- what a token says of its word

abbrev pub Told : Text → Tok → Type 0
Told w (name n) = (w ≡ n) × Name w
Told w (numeral z) = WritesNumber w z
Told w (quoted q) = (w ≡ 39 ∷ (q ++ 39 ∷ [])) × (is_word q ≡ true)
Told w (column k) = WritesColumn w k
Told w (sign s) = w ≡ spelled_sign s

abbrev Tells : Text → Option Tok → Type 0
Tells w None = Unit {0}
Tells w (Some t) = Told w t

numbers_tell : (w : Text) (o : Option ℤ) → number w ≡ o → Tells w (option_map (λ z. numeral z) o)
numbers_tell w None e = tt
numbers_tell w (Some z) e = number_told w z e

signs_tell : (w : Text) (o : Option Sign) → sign_of w ≡ o → Tells w (option_map (λ s. sign s) o)
signs_tell w None e = tt
signs_tell w (Some s) e = sign_told w s e

quotes_tell : (c : ℕ) (cs : Text) → c ≡ 39 → Tells (c ∷ cs) (quotation cs)
quotes_tell c cs e =
    cond_both (eqb (get_or cs (length cs - 1) 0) 39 && is_word (take (length cs - 1) cs)) _ _ (Tells (c ∷ cs))
    (λ t. let h = quoted_told cs (take (length cs - 1) cs) (cond-true (eqb (get_or cs (length cs - 1) 0) 39 && is_word (take (length cs - 1) cs)) _ _ t) in ((λ i. e i ∷ h.0 i), h.1))
    (λ _. tt)

columns_tell : (w : Text) → Tells w (column_of w)
columns_tell w =
    cond_both (eqb (length w) 2 && (eqb (get_or w 0 0) 99 && (leb 49 (get_or w 1 0) && leb (get_or w 1 0) 54))) _ _ (Tells w)
    (λ t. column_told w (get_or w 1 0 - 48) (cond-true (eqb (length w) 2 && (eqb (get_or w 0 0) 99 && (leb 49 (get_or w 1 0) && leb (get_or w 1 0) 54))) _ _ t))
    (λ _. tt)

words_tell : (p : Position) (w : Text) → Tells w (word_at p w)
words_tell position.Name w = cond_both (is_name w) _ _ (Tells w) (λ t. (refl, t)) (λ _. tt)
words_tell position.Column w = columns_tell w

tells_all : (p : Position) (w : Text) → Tells w (token p w)
tells_all p [] = tt
tells_all p (c ∷ cs) =
    cond_both (eqb c 39) _ _ (Tells (c ∷ cs))
    (λ t. quotes_tell c cs (eqb-true _ _ t))
    (λ _. cond_both (eqb c 45 || is_ascii_digit c) _ _ (Tells (c ∷ cs))
    (λ _. numbers_tell (c ∷ cs) (number (c ∷ cs)) refl)
    (λ _. cond_both (sign_byte c) _ _ (Tells (c ∷ cs))
    (λ _. signs_tell (c ∷ cs) (sign_of (c ∷ cs)) refl)
    (λ _. words_tell p (c ∷ cs))))

pub told : (p : Position) (w : Text) (t : Tok) → token p w ≡ Some t → Told w t
told p w t e = subst (Tells w) e (tells_all p w)
