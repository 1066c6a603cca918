-- The stretches of a group's cuts give the amounts on each day.
use Rattle.std.proofs.Common.{◌≡◌, ℕ, zero, suc, ◌+◌, ◌<◌, ◌≤◌, Bool, true, false, cond, ◌&&◌, ltb, leb, ◌⊎◌, List, [], ◌∷◌, length, get_or, pos, filter, sym, refl, ap, ◌∙◌, subst, inl, inr, add-one, arith}
use lib.Signed.{lt_z}
use Rattle.std.specs.List.{AllByRecursion as AllOf}
use Rattle.std.proofs.ByRecursion.{All-get_or}
use Rattle.std.proofs.lemmas.Bool.{cases_lt, le-leb, lt-leb, lt-ltb, le-ltb, true≢false}
use Rattle.relation.specs.declared.rows.Row.{Row}
use Rattle.relation.specs.Bounds.{end_of_days}
use Rattle.relation.specs.Rows.{Period, Holds, holds}
use Rattle.relation.proofs.Held.{holds_decides}
use Rattle.relation.proofs.Pigeons.{all_both}
use Rattle.collect.specs.Areas.{no_row, bare}
use Rattle.tallies.specs.declared.rules.Tally.{Tally}
use Rattle.cuts.specs.Amounts.{value, held, amount}
use Rattle.cuts.specs.Groups.{tuple_by, HeldIn}
use Rattle.cuts.specs.Stretches.{stretch_by, stretches_by}
use Rattle.cuts.proofs.Telling.{some?, CutAt, Says, Told}
use Rattle.cuts.proofs.Stretching.{From, stretch_listed}

-- ---- rows that hold a day

kept_same : (p q : Row → Bool) (ws : List Row) → AllOf (λ w. p w ≡ q w) ws → filter p ws ≡ filter q ws
kept_same p q [] h = refl
kept_same p q (w ∷ ws) h = λ k. cond (h.0 k) (w ∷ kept_same p q ws h.1 k) (kept_same p q ws h.1 k)

holder_first : (w : Row) (ws hs : List Row) (d : ℕ) → (some? hs ≡ true → HeldIn ws d) → (b : Bool) → holds (bare w) d ≡ b → some? (cond b (w ∷ hs) hs) ≡ true → HeldIn (w ∷ ws) d
holder_first w ws hs d more true e h = (0, (omega arith, (holds_decides (bare w) d).0 e))
holder_first w ws hs d more false e h = let s = more h in (suc s.0, (omega (arith, s.1.0), s.1.1))

holder : (ws : List Row) (d : ℕ) → some? (held ws d) ≡ true → HeldIn ws d
holder [] d h = absurd (true≢false (sym h))
holder (w ∷ ws) d h = holder_first w ws (held ws d) d (holder ws d) (holds (bare w) d) refl h

some_more : (b : Bool) (w : Row) (hs : List Row) → some? hs ≡ true → some? (cond b (w ∷ hs) hs) ≡ true
some_more true w hs h = refl
some_more false w hs h = h

held_some : (ws : List Row) (d i : ℕ) → i < length ws → Holds (bare (get_or ws i no_row)) d → some? (held ws d) ≡ true
held_some [] d i lt h = absurd (omega arith)
held_some (w ∷ ws) d zero lt h = ap (λ b. some? (cond b (w ∷ held ws d) (held ws d))) ((holds_decides (bare w) d).1 h)
held_some (w ∷ ws) d (suc i) lt h = some_more (holds (bare w) d) w (held ws d) (held_some ws d i (omega arith) h)

-- ---- between two cuts

-- days that rise pass over d between two neighbours
crossing : (f : ℕ → ℕ) (d a k : ℕ) → a < k → f a ≤ d → d < f k → (j : ℕ) × ((j < k) × ((f j ≤ d) × (d < f (suc j))))
crossing f d a zero lt low high = absurd (omega arith)
crossing f d a (suc k) lt low high = step (cases_lt d (f k)) (crossing f d a k)
  where
    step : (d < f k) ⊎ (f k ≤ d) → (a < k → f a ≤ d → d < f k → (j : ℕ) × ((j < k) × ((f j ≤ d) × (d < f (suc j))))) → (j : ℕ) × ((j < suc k) × ((f j ≤ d) × (d < f (suc j))))
    step (inl l) more =
        let apart : a ≡ k → ⊥ = λ e. (let s = subst (λ n. f n ≤ d) e low in omega arith) in
        let m = more (omega arith) low l in
        (m.0, (omega (arith, m.1.0), m.1.1))
    step (inr l) more = (k, (omega arith, (l, high)))

module _ (m : Tally) (ws cs : List Row) (told : Told m ws cs) where
  abbrev day : ℕ → ℕ
  day j = (get_or cs j no_row).first

  -- a cut is at or before the first of two neighbours, or at or after the second
  sides : (j d : ℕ) → suc j < length cs → CutAt cs d → (d ≤ day j) ⊎ (day (suc j) ≤ d)
  sides j d lt at =
      elim (cases_lt at.0 (suc j)) [
        | inl l ↦ inl (omega (arith, told.rises at.0 j (omega arith) (omega arith), at.1.1))
        | inr l ↦ inr (omega (arith, told.rises (suc j) at.0 l at.1.0, at.1.1))
      ]

  module _ (j d : ℕ) (lt : suc j < length cs) (low : day j ≤ d) (high : d < day (suc j)) where
    alike : (w : Row) → CutAt cs w.first → CutAt cs w.end → holds (bare w) d ≡ holds (bare w) (day j)
    alike w b e = λ k. begun (sides j w.first lt b) k && ended (sides j w.end lt e) k
      where
        begun : (w.first ≤ day j) ⊎ (day (suc j) ≤ w.first) → leb w.first d ≡ leb w.first (day j)
        begun (inl l) = le-leb w.first d (omega arith) ∙ sym (le-leb w.first (day j) l)
        begun (inr l) = lt-leb w.first d (omega arith) ∙ sym (lt-leb w.first (day j) (omega arith))

        ended : (w.end ≤ day j) ⊎ (day (suc j) ≤ w.end) → ltb d w.end ≡ ltb (day j) w.end
        ended (inl l) = le-ltb d w.end (omega arith) ∙ sym (le-ltb (day j) w.end l)
        ended (inr l) = lt-ltb d w.end (omega arith) ∙ sym (lt-ltb (day j) w.end (omega arith))

    -- no row begins or ends between two neighbouring cuts
    constant : held ws d ≡ held ws (day j)
    constant = kept_same (λ w. holds (bare w) d) (λ w. holds (bare w) (day j)) ws (all_both (λ w b e. alike w b e) ws told.begins told.ends)

  says : (j : ℕ) → suc j < length cs → day j < day (suc j) → Says m ws (get_or cs j no_row)
  says j lt ahead =
      let e : j + 1 ≡ suc j = add-one j in
      told.says j (omega arith) (subst (λ n. day j < day n) (sym e) ahead)

  -- ---- the stretches

  module _ (group : Row) (by : List ℕ) (w : Row) (f : From group by cs w) where
    pub stretch_says : (d : ℕ) → Holds (bare w) d → HeldIn ws d × (w.values ≡ tuple_by group by (amount m (held ws d)))
    stretch_says d h =
        let s = says f.j f.within f.ahead in
        let low : day f.j ≤ d = omega (arith, ap (λ r. r.first) f.is, h.0) in
        let high : d < day (suc f.j) = omega (arith, ap (λ r. r.end) f.is, h.1) in
        let same = constant f.j d f.within low high in
        (holder ws d (ap some? same ∙ sym s.rows ∙ f.some), ap (λ r. r.values) f.is ∙ ap (tuple_by group by) (s.amount_is ∙ ap (amount m) (sym same)))

    pub stretch_period : AllOf (λ r. Period (bare r)) ws → Period (bare w)
    stretch_period periods =
        let s = says f.j f.within f.ahead in
        let h = holder ws (day f.j) (sym s.rows ∙ f.some) in
        let r = get_or ws h.0 no_row in
        let p = All-get_or (λ u. Period (bare u)) ws h.0 no_row h.1.0 periods in
        let e = All-get_or (λ u. CutAt cs u.end) ws h.0 no_row h.1.0 told.ends in
        let end_is = ap (λ u. u.end) f.is in
        let first_is = ap (λ u. u.first) f.is in
        let under : day (suc f.j) ≤ end_of_days =
        elim (sides f.j r.end f.within e) [ inl l ↦ absurd (omega (arith, h.1.1.1)) | inr l ↦ omega (arith, p.1) ] in
        (omega (arith, f.ahead), omega arith)

  -- two neighbours between which a day lies that comes after one cut and before another
  neighbours : (d a b : ℕ) → CutAt cs a → CutAt cs b → a ≤ d → d < b → (j : ℕ) × ((suc j < length cs) × ((day j ≤ d) × (d < day (suc j))))
  neighbours d a b from upto low high =
      let order : from.0 < upto.0 = elim (cases_lt from.0 upto.0) [ inl l ↦ l | inr l ↦ absurd (omega (arith, told.rises upto.0 from.0 l from.1.0, from.1.1, upto.1.1)) ] in
      let x = crossing day d from.0 upto.0 order (omega (arith, from.1.1)) (omega (arith, upto.1.1)) in
      (x.0, (omega (arith, x.1.0, upto.1.0), x.1.1))

  -- a row of the list holds the day
  module _ (group : Row) (by : List ℕ) (d : ℕ) where
    abbrev out : List Row
    out = stretches_by group by cs

    listed_holds : (w : Row) → Holds (bare w) d → (i : ℕ) × ((i < length out) × (get_or out i no_row ≡ w)) → HeldIn out d
    listed_holds w h s = (s.0, (s.1.0, subst (λ u. Holds (bare u) d) (sym s.1.1) h))

    covered : (j : ℕ) → suc j < length cs → day j ≤ d → d < day (suc j) → some? (held ws d) ≡ true → HeldIn out d
    covered j within low high some =
        let ahead : day j < day (suc j) = omega arith in
        let told_some : lt_z (pos 0) (value 0 (get_or cs j no_row)) ≡ true = (says j within ahead).rows ∙ ap some? (sym (constant j d within low high)) ∙ some in
        listed_holds (stretch_by group by (get_or cs j no_row) (get_or cs (suc j) no_row)) (low, high) (stretch_listed group by cs j within told_some ahead)

    pub day_covered : HeldIn ws d → HeldIn out d
    day_covered h =
        let b = All-get_or (λ u. CutAt cs u.first) ws h.0 no_row h.1.0 told.begins in
        let e = All-get_or (λ u. CutAt cs u.end) ws h.0 no_row h.1.0 told.ends in
        let x = neighbours d (get_or ws h.0 no_row).first (get_or ws h.0 no_row).end b e h.1.1.0 h.1.1.1 in
        covered x.0 x.1.0 x.1.1.0 x.1.1.1 (held_some ws d h.0 h.1.0 h.1.1)
