-- The words that are cut from a line are those that stand in it, and so the lines of a text.
use Rattle.std.proofs.Common.{◌≡◌, ℕ, ◌+◌, ◌-◌, ◌≤◌, eqb, ◌⊎◌, List, [], ◌∷◌, ◌++◌, length, sym, refl, ap, ◌∙◌, subst, inl, inr, ⊎_elim, append_assoc, append-nil, arith}
use Rattle.std.specs.List.{AllByRecursion as AllOf}
use Rattle.std.proofs.lemmas.List.{length-append}
use Rattle.std.proofs.lemmas.Bool.{cond-true, cond-false, eq-eqb, ne_eqb, cases_eq}
use Rattle.words.specs.Words.{Cut, ended, words_from}
use Rattle.words.specs.Lines.{closed, lines_from}
use Rattle.words.specs.Parted.{Apart, Parted, WordsParted, Ended, LinesEnded}

-- ---- what stands there is cut

over_gap : (p : ℕ) (gap on : List ℕ) → AllOf (λ b. b ≡ 32) gap → words_from p [] (gap ++ on) ≡ words_from (p + length gap) [] on
over_gap p [] on h = let e : p ≡ p + 0 = omega arith in ap (λ k. words_from k [] on) e
over_gap p (b ∷ gap) on h =
    let e : p + 1 + length gap ≡ p + length (b ∷ gap) = omega arith in
    cond-true (eqb b 32) _ _ (eq-eqb _ _ h.0) ∙ over_gap (p + 1) gap on h.1 ∙ ap (λ k. words_from k [] on) e

over_word : (p : ℕ) (w v on : List ℕ) → AllOf (λ b. b ≡ 32 → ⊥) v → words_from p w (v ++ on) ≡ words_from (p + length v) (w ++ v) on
over_word p w [] on h = let e : p ≡ p + 0 = omega arith in let back = sym (append-nil w) in λ i. words_from (e i) (back i) on
over_word p w (b ∷ v) on h =
    let e : p + 1 + length v ≡ p + length (b ∷ v) = omega arith in
    cond-false (eqb b 32) _ _ (ne_eqb _ _ h.0) ∙ over_word (p + 1) (w ++ b ∷ []) v on h.1 ∙ (λ i. words_from (e i) (append_assoc w (b ∷ []) v i) on)

word_ends : (p : ℕ) (w on : List ℕ) → Apart on → words_from p w on ≡ ended p w (words_from p [] on)
word_ends p w on (inl e) = ap (words_from p w) e ∙ ap (λ l. ended p w (words_from p [] l)) (sym e)
word_ends p w on (inr h) = ap (words_from p w) h.1 ∙ ap (λ l. ended p w (words_from p [] l)) (sym h.1)

ended_word : (p q : ℕ) (w : List ℕ) (cs : List Cut) → 1 ≤ length w → p ≡ q + length w → ended p w cs ≡ (q, w) ∷ cs
ended_word p q [] cs some e = absurd (omega arith)
ended_word p q (b ∷ w) cs some e = let k : p - length (b ∷ w) ≡ q = omega arith in ap (λ j. (j, b ∷ w) ∷ cs) k

no_words : (p : ℕ) (bs : List ℕ) → AllOf (λ b. b ≡ 32) bs → words_from p [] bs ≡ []
no_words p bs h = ap (words_from p []) (sym (append-nil bs)) ∙ over_gap p bs [] h

cut_from : (p : ℕ) (bs : List ℕ) (cs : List Cut) → Parted p bs cs → words_from p [] bs ≡ cs
cut_from p bs [] h = no_words p bs h
cut_from p bs (c ∷ cs) h =
    let gap = h.0 in
    let on = h.1 in
    let w = c.1 in
    let at = h.4 in
    let q = c.0 + length w in
    ap (words_from p []) h.2
    ∙ over_gap p gap (w ++ on) h.3
    ∙ ap (λ k. words_from k [] (w ++ on)) (sym at)
    ∙ over_word c.0 [] w on h.6
    ∙ word_ends q w on h.7
    ∙ ap (ended q w) (cut_from q on cs h.8)
    ∙ ended_word q c.0 w cs h.5 refl

-- ---- what is cut stands there

one_gap_more : (p : ℕ) (b : ℕ) (bs : List ℕ) (cs : List Cut) → b ≡ 32 → Parted (p + 1) bs cs → Parted p (b ∷ bs) cs
one_gap_more p b bs [] e h = (e, h)
one_gap_more p b bs (c ∷ cs) e h = let at = h.4 in (b ∷ h.0, h.1, ap (λ l. b ∷ l) h.2, (e, h.3), omega arith, h.5, h.6, h.7, h.8)

-- the word w, which ends at place p, goes on by v
abbrev GoesOn : ℕ → List ℕ → List ℕ → Type 0
GoesOn p w bs =
    (v : List ℕ) × (on : List ℕ) × (cs : List Cut) × (bs ≡ v ++ on) × AllOf (λ b. b ≡ 32 → ⊥) v × Apart on × Parted (p + length v) on cs × (words_from p w bs ≡ (p - length w, w ++ v) ∷ cs)

ended_at : (p : ℕ) (w : List ℕ) (cs : List Cut) → 1 ≤ length w → ended p w cs ≡ (p - length w, w) ∷ cs
ended_at p [] cs some = absurd (omega arith)
ended_at p (b ∷ w) cs some = refl

module _ (b : ℕ) (bs : List ℕ) (fresh : (p : ℕ) → Parted p bs (words_from p [] bs)) (inside : (p : ℕ) (w : List ℕ) → 1 ≤ length w → GoesOn p w bs) where
  fresh_space : (p : ℕ) → b ≡ 32 → Parted p (b ∷ bs) (words_from p [] (b ∷ bs))
  fresh_space p e = subst (Parted p (b ∷ bs)) (sym (cond-true (eqb b 32) _ _ (eq-eqb _ _ e))) (one_gap_more p b bs (words_from (p + 1) [] bs) e (fresh (p + 1)))

  fresh_word : (p : ℕ) → (b ≡ 32 → ⊥) → Parted p (b ∷ bs) (words_from p [] (b ∷ bs))
  fresh_word p ne =
      let g = inside (p + 1) (b ∷ []) (omega arith) in
      let at : p + 1 - 1 ≡ p = omega arith in
      let on : p + 1 + length g.0 ≡ p + length (b ∷ g.0) = omega arith in
      let here : p ≡ p + 0 = omega arith in
      subst (Parted p (b ∷ bs)) (sym (cond-false (eqb b 32) _ _ (ne_eqb _ _ ne) ∙ g.7 ∙ ap (λ k. (k, b ∷ g.0) ∷ g.2) at))
      ([], g.1, ap (λ l. b ∷ l) g.3, tt, here, omega arith, (ne, g.4), g.5, subst (λ k. Parted k g.1 g.2) on g.6)

  inside_space : (p : ℕ) (w : List ℕ) → 1 ≤ length w → b ≡ 32 → GoesOn p w (b ∷ bs)
  inside_space p w some e =
      let here : p ≡ p + 0 = omega arith in (
        [],
        b ∷ bs,
        words_from (p + 1) [] bs,
        refl,
        tt,
        inr (bs, ap (λ c. c ∷ bs) e),
        subst (λ k. Parted k (b ∷ bs) (words_from (p + 1) [] bs)) here (one_gap_more p b bs (words_from (p + 1) [] bs) e (fresh (p + 1))),
        cond-true (eqb b 32) _ _ (eq-eqb _ _ e) ∙ ended_at p w (words_from (p + 1) [] bs) some ∙ ap (λ l. (p - length w, l) ∷ words_from (p + 1) [] bs) (sym (append-nil w)),
      )

  inside_word : (p : ℕ) (w : List ℕ) → 1 ≤ length w → (b ≡ 32 → ⊥) → GoesOn p w (b ∷ bs)
  inside_word p w some ne =
      let n = length-append w (b ∷ []) in
      let g = inside (p + 1) (w ++ b ∷ []) (omega arith) in
      let at : p + 1 - length (w ++ b ∷ []) ≡ p - length w = omega arith in
      let on : p + 1 + length g.0 ≡ p + length (b ∷ g.0) = omega arith in (
        b ∷ g.0,
        g.1,
        g.2,
        ap (λ l. b ∷ l) g.3,
        (ne, g.4),
        g.5,
        subst (λ k. Parted k g.1 g.2) on g.6,
        cond-false (eqb b 32) _ _ (ne_eqb _ _ ne) ∙ g.7 ∙ (λ i. (at i, append_assoc w (b ∷ []) g.0 i) ∷ g.2),
      )

  next_fresh : (p : ℕ) → Parted p (b ∷ bs) (words_from p [] (b ∷ bs))
  next_fresh p = ⊎_elim (fresh_space p) (fresh_word p) (cases_eq b 32)

  next_inside : (p : ℕ) (w : List ℕ) → 1 ≤ length w → GoesOn p w (b ∷ bs)
  next_inside p w some = ⊎_elim (inside_space p w some) (inside_word p w some) (cases_eq b 32)

stand : (bs : List ℕ) → ((p : ℕ) → Parted p bs (words_from p [] bs)) × ((p : ℕ) (w : List ℕ) → 1 ≤ length w → GoesOn p w bs)
stand [] = ((λ p. tt), λ p w some. ([], [], [], refl, tt, inl refl, tt, ended_at p w [] some ∙ ap (λ l. (p - length w, l) ∷ []) (sym (append-nil w))))
stand (b ∷ bs) = let h = stand bs in (next_fresh b bs h.0 h.1, next_inside b bs h.0 h.1)

pub words_parted : WordsParted
words_parted line cs = (cut_from 0 line cs, λ e. subst (Parted 0 line) e ((stand line).0 0))

-- ---- lines

over_line : (w v on : List ℕ) → AllOf (λ b. b ≡ 10 → ⊥) v → lines_from w (v ++ on) ≡ lines_from (w ++ v) on
over_line w [] on h = ap (λ l. lines_from l on) (sym (append-nil w))
over_line w (b ∷ v) on h = cond-false (eqb b 10) _ _ (ne_eqb _ _ h.0) ∙ over_line (w ++ b ∷ []) v on h.1 ∙ ap (λ l. lines_from l on) (append_assoc w (b ∷ []) v)

closed_some : (l : List ℕ) → 1 ≤ length l → closed l ≡ l ∷ []
closed_some [] h = absurd (omega arith)
closed_some (b ∷ l) h = refl

lines_from_lem : (bs : List ℕ) (ls : List (List ℕ)) → Ended bs ls → lines_from [] bs ≡ ls
lines_from_lem bs [] h = ap (lines_from []) h
lines_from_lem bs (l ∷ ls) h =
    ⊎_elim
    (λ g. ap (lines_from []) g.1 ∙ over_line [] l (10 ∷ g.0) h.0 ∙ ap (λ x. l ∷ x) (lines_from_lem g.0 ls g.2))
    (λ g. ap (lines_from []) (g.0 ∙ sym (append-nil l)) ∙ over_line [] l [] h.0 ∙ closed_some l g.1 ∙ ap (λ x. l ∷ x) (sym g.2))
    h.1

-- the line w goes on by v
abbrev LineOn : List ℕ → List ℕ → Type 0
LineOn w bs =
    (v : List ℕ) × (ls : List (List ℕ)) × AllOf (λ b. b ≡ 10 → ⊥) v × (lines_from w bs ≡ (w ++ v) ∷ ls)
    × (((on : List ℕ) × (bs ≡ v ++ 10 ∷ on) × Ended on ls) ⊎ ((bs ≡ v) × (ls ≡ [])))

abbrev LineAt : List ℕ → List ℕ → Type 0
LineAt w bs = ((w ≡ []) × (bs ≡ [])) ⊎ LineOn w bs

whole_text : (bs : List ℕ) → LineAt [] bs → Ended bs (lines_from [] bs)
whole_text bs (inl h) = subst (λ l. Ended l (lines_from [] l)) (sym h.1) refl
whole_text bs (inr g) = subst (Ended bs) (sym g.3) (g.2, by_end g.0 g.1 g.2 g.3 g.4)
  where
    by_end : (v : List ℕ) (ls : List (List ℕ)) → AllOf (λ b. b ≡ 10 → ⊥) v → lines_from [] bs ≡ v ∷ ls → ((on : List ℕ) × (bs ≡ v ++ 10 ∷ on) × Ended on ls) ⊎ ((bs ≡ v) × (ls ≡ [])) → ((on : List ℕ) × (bs ≡ v ++ 10 ∷ on) × Ended on ls) ⊎ ((bs ≡ v) × (1 ≤ length v) × (ls ≡ []))
    by_end v ls a e (inl h) = inl h
    by_end [] ls a e (inr h) = let none : lines_from [] bs ≡ [] = ap (lines_from []) h.0 in let n : length (lines_from [] bs) ≡ 0 = ap length none in let m = ap length e in absurd (omega arith)
    by_end (b ∷ v) ls a e (inr h) = inr (h.0, omega arith, h.1)

line_at : (bs w : List ℕ) → LineAt w bs
line_at [] [] = inl (refl, refl)
line_at [] (c ∷ w) = inr ([], [], tt, ap (λ l. l ∷ []) (sym (append-nil (c ∷ w))), inr (refl, refl))
line_at (b ∷ bs) w =
    ⊎_elim
    (λ e. inr ([], lines_from [] bs, tt, cond-true (eqb b 10) _ _ (eq-eqb _ _ e) ∙ ap (λ l. l ∷ lines_from [] bs) (sym (append-nil w)), inl (bs, ap (λ c. c ∷ bs) e, whole_text bs (line_at bs []))))
    (λ ne. more ne (line_at bs (w ++ b ∷ [])))
    (cases_eq b 10)
  where
    more : (b ≡ 10 → ⊥) → LineAt (w ++ b ∷ []) bs → LineAt w (b ∷ bs)
    more ne (inl h) = let n = length-append w (b ∷ []) in let m : length (w ++ b ∷ []) ≡ 0 = ap length h.0 in absurd (omega arith)
    more ne (inr g) =
        inr (
          b ∷ g.0,
          g.1,
          (ne, g.2),
          cond-false (eqb b 10) _ _ (ne_eqb _ _ ne) ∙ g.3 ∙ ap (λ l. l ∷ g.1) (append_assoc w (b ∷ []) g.0),
          ⊎_elim (λ h. inl (h.0, ap (λ l. b ∷ l) h.1, h.2)) (λ h. inr (ap (λ l. b ∷ l) h.0, h.1)) g.4,
        )

pub lines_ended : LinesEnded
lines_ended text ls = (lines_from_lem text ls, λ e. subst (Ended text) e (whole_text text (line_at text [])))
