-- The first word of a line, and the first line of a text.
use Rattle.std.proofs.Common.{◌≡◌, ℕ, suc, ◌+◌, ◌-◌, ◌<◌, ◌≤◌, Bool, true, false, cond, eqb, ltb, not, List, [], ◌∷◌, ◌++◌, length, get_or, take, drop, Some, None, sym, refl, ap, ◌∙◌, subst, ⊎_elim, append_assoc, append-nil, arith}
use Rattle.std.specs.List.{position, position_or_len}
use Rattle.std.proofs.lemmas.List.{length_push, length-take-le, length-drop, get_or-drop, drop_all, drop-drop}
use Rattle.std.proofs.lemmas.List.Quantifiers.{position-Some}
use Rattle.std.proofs.lemmas.Option.{cond_some, none-some}
use Rattle.std.proofs.lemmas.List.Sums.{prefix_len-le-length}
use Rattle.std.proofs.lemmas.Bool.{cond-true, cond-false, cases_Bool, ltb-false, not-true}
use Rattle.words.specs.Words.{Cut, words_from, left, ended}
use Rattle.words.specs.Lines.{lines_from, lines, closed}

-- ---- words

abbrev pub space : ℕ → Bool
space b = eqb b 32

abbrev pub other : ℕ → Bool
other b = not (eqb b 32)

-- the first n bytes are spaces before a word, and no part of it
abbrev Spaces : ℕ → List ℕ → ℕ → Type 0
Spaces p bs n = words_from p [] bs ≡ words_from (p + n) [] (drop n bs)

pub past_spaces : (p : ℕ) (bs : List ℕ) → Spaces p bs (position_or_len other bs)
past_spaces p [] = refl
past_spaces p (b ∷ bs) = at (eqb b 32) refl (past_spaces (p + 1) bs)
  where
    n : ℕ
    n = position_or_len other bs

    at : (t : Bool) → eqb b 32 ≡ t → Spaces (p + 1) bs n → Spaces p (b ∷ bs) (cond (not (not t)) (1 + n) 0)
    at true e on =
        let one : suc n ≡ 1 + n = omega arith in
        subst (Spaces p (b ∷ bs)) one (cond-true (eqb b 32) _ _ e ∙ on ∙ ap (λ k. words_from k [] (drop n bs)) (omega arith))
    at false e on = ap (λ k. words_from k [] (b ∷ bs)) (omega arith)

-- a word, of which w stands before, ends after n bytes more
abbrev Ends : ℕ → List ℕ → List ℕ → ℕ → Type 0
Ends p w bs n = words_from p w bs ≡ ended (p + n) (w ++ take n bs) (words_from (p + n) [] (drop n bs))

pub first_word : (p : ℕ) (w bs : List ℕ) → Ends p w bs (position_or_len space bs)
first_word p w [] = let e : p ≡ p + 0 = omega arith in λ i. ended (e i) (sym (append-nil w) i) []
first_word p w (b ∷ bs) = at (eqb b 32) refl (first_word (p + 1) (w ++ b ∷ []) bs)
  where
    n : ℕ
    n = position_or_len space bs

    at : (t : Bool) → eqb b 32 ≡ t → Ends (p + 1) (w ++ b ∷ []) bs n → Ends p w (b ∷ bs) (cond (not t) (1 + n) 0)
    at true e on =
        let k : p ≡ p + 0 = omega arith in
        cond-true (eqb b 32) _ _ e ∙ ap (ended p w) (sym (cond-true (eqb b 32) _ _ e)) ∙ (λ i. ended (k i) (sym (append-nil w) i) (words_from (k i) [] (b ∷ bs)))
    at false e on =
        let k : p + 1 + n ≡ p + suc n = omega arith in
        let one : suc n ≡ 1 + n = omega arith in
        subst (Ends p w (b ∷ bs)) one (cond-false (eqb b 32) _ _ e ∙ on ∙ (λ i. ended (k i) (append_assoc w (b ∷ []) (take n bs) i) (words_from (k i) [] (drop n bs))))

ended_some : (p q : ℕ) (w : List ℕ) (ws : List Cut) → 1 ≤ length w → p ≡ q + length w → ended p w ws ≡ (q, w) ∷ ws
ended_some p q [] ws some e = absurd (omega arith)
ended_some p q (b ∷ w) ws some e = ap (λ k. (k, b ∷ w) ∷ ws) (omega arith)

-- the first place that passes a test, where there is one
first_place : (t : ℕ → Bool) (bs : List ℕ) (k : ℕ) → Some k ≡ position t bs → (k < length bs) × (t (get_or bs k 0) ≡ true) × (position_or_len t bs ≡ k)
first_place t bs k e = let p = position-Some t bs k 0 (sym e) in (p.0, p.1, (cond_some (ltb (position_or_len t bs) (length bs)) _ k (sym e)).1)

-- a word that begins at a byte that is no space has that byte
some_bytes : (bs : List ℕ) → 1 ≤ length bs → space (get_or bs 0 0) ≡ false → 1 ≤ position_or_len space bs
some_bytes [] h e = absurd (omega arith)
some_bytes (b ∷ bs) h e = subst (λ t. 1 ≤ cond (not t) (1 + position_or_len space bs) 0) (sym e) (omega arith)

-- no word where each byte is a space
pub no_word : (p : ℕ) (bs : List ℕ) → None ≡ position other bs → words_from p [] bs ≡ []
no_word p bs e =
    let le = prefix_len-le-length (λ x. not (other x)) bs in
    let all : position_or_len other bs ≡ length bs = ⊎_elim (λ t. absurd (none-some _ (e ∙ cond-true (ltb (position_or_len other bs) (length bs)) _ _ t))) (λ f. let ge = ltb-false _ _ f in omega arith) (cases_Bool (ltb (position_or_len other bs) (length bs))) in
    past_spaces p bs ∙ ap (λ n. words_from (p + n) [] (drop n bs)) all ∙ ap (words_from (p + length bs) []) (drop_all (length bs) bs (omega arith))

-- k spaces and then the word of n bytes
pub next_word : (line : List ℕ) (p k n : ℕ) → Some k ≡ position other (drop p line) → n ≡ position_or_len space (drop (p + k) line) → left line p ≡ (p + k, take n (drop (p + k) line)) ∷ left line (p + k + n)
next_word line p k n e f =
    let bs = drop p line in
    let ws = drop (p + k) line in
    let at = first_place other bs k e in
    let same : drop k bs ≡ ws = drop-drop k p line in
    let rest : position_or_len space ws ≡ n = sym f in
    let le = prefix_len-le-length (λ x. not (space x)) ws in
    let room : length ws ≡ length bs - k = ap length (sym same) ∙ length-drop k bs in
    let first : get_or ws 0 0 ≡ get_or bs k 0 = ap (λ l. get_or l 0 0) (sym same) ∙ get_or-drop k bs 0 0 ∙ ap (λ i. get_or bs i 0) (omega arith) in
    let lt = at.0 in
    let some = some_bytes ws (omega arith) (ap space first ∙ not-true _ at.1) in
    let m : length (take n ws) ≡ n = length-take-le n ws (omega arith) in
    past_spaces p bs
    ∙ (λ i. words_from (p + at.2 i) [] (drop (at.2 i) bs))
    ∙ ap (words_from (p + k) []) same
    ∙ first_word (p + k) [] ws
    ∙ (λ i. ended (p + k + rest i) (take (rest i) ws) (words_from (p + k + rest i) [] (drop (rest i) ws)))
    ∙ ended_some (p + k + n) (p + k) (take n ws) _ (omega arith) (omega arith)
    ∙ ap (λ l. (p + k, take n ws) ∷ words_from (p + k + n) [] l) (drop-drop n (p + k) line)

-- ---- lines

abbrev pub line_end : ℕ → Bool
line_end b = eqb b 10

closed_some : (w : List ℕ) → 1 ≤ length w → closed w ≡ w ∷ []
closed_some [] h = absurd (omega arith)
closed_some (b ∷ w) h = refl

-- a line, of which w stands before, ends after n bytes more
abbrev EndsLine : List ℕ → List ℕ → ℕ → Type 0
EndsLine w bs n = lines_from w bs ≡ (w ++ take n bs) ∷ lines (drop 1 (drop n bs))

pub first_line : (w bs : List ℕ) → 1 ≤ length w + length bs → EndsLine w bs (position_or_len line_end bs)
first_line w [] h = closed_some w (omega arith) ∙ ap (λ l. l ∷ []) (sym (append-nil w))
first_line w (b ∷ bs) h = at (eqb b 10) refl (first_line (w ++ b ∷ []) bs (let l = length_push w b in omega arith))
  where
    n : ℕ
    n = position_or_len line_end bs

    at : (t : Bool) → eqb b 10 ≡ t → EndsLine (w ++ b ∷ []) bs n → EndsLine w (b ∷ bs) (cond (not t) (1 + n) 0)
    at true e on = cond-true (eqb b 10) _ _ e ∙ ap (λ l. l ∷ lines bs) (sym (append-nil w))
    at false e on =
        let one : suc n ≡ 1 + n = omega arith in
        subst (EndsLine w (b ∷ bs)) one (cond-false (eqb b 10) _ _ e ∙ on ∙ ap (λ l. l ∷ lines (drop 1 (drop n bs))) (append_assoc w (b ∷ []) (take n bs)))

-- no more lines than bytes
few_from : (w bs : List ℕ) → length (lines_from w bs) ≤ length w + length bs
few_from [] [] = omega arith
few_from (c ∷ w) [] = omega arith
few_from w (b ∷ bs) = at (eqb b 10) refl (few_from [] bs) (let m = few_from (w ++ b ∷ []) bs in let l = length_push w b in omega arith)
  where
    at : (t : Bool) → eqb b 10 ≡ t → length (lines_from [] bs) ≤ 0 + length bs → length (lines_from (w ++ b ∷ []) bs) ≤ length w + (1 + length bs) → length (lines_from w (b ∷ bs)) ≤ length w + length (b ∷ bs)
    at true e m n = let q = ap length (cond-true (eqb b 10) (w ∷ lines_from [] bs) (lines_from (w ++ b ∷ []) bs) e) in omega arith
    at false e m n = let q = ap length (cond-false (eqb b 10) (w ∷ lines_from [] bs) (lines_from (w ++ b ∷ []) bs) e) in omega arith

pub few_lines : (bs : List ℕ) → length (lines bs) ≤ length bs
few_lines bs = let m = few_from [] bs in omega arith
