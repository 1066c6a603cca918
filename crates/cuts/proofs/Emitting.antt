-- The stretches are written one after the other, from turn to turn.
use Rattle.std.proofs.Common.{◌≡◌, ℕ, ◌+◌, ◌-◌, ◌<◌, ◌≤◌, Bool, true, false, cond, ◌&&◌, ltb, ◌⊎◌, List, [], ◌∷◌, ◌++◌, length, get_or, take, drop, set, pos, sym, refl, ap, ◌∙◌, subst, inl, inr, arith}
use lib.Signed.{lt_z}
use Rattle.std.proofs.lemmas.List.{append-nil, append_assoc, length-drop, drop_more, drop-drop, drop-set-lt, take_more_set}
use Rattle.std.proofs.lemmas.Bool.{and_left, and_right, and_from, le-ltb, lt-ltb, cond-true, cond-false}
use Rattle.relation.specs.declared.rows.Row.{Row}
use Rattle.collect.specs.Areas.{no_row}
use Rattle.cuts.specs.Amounts.{value}
use Rattle.cuts.specs.Stretches.{stretch_by, stretches_by}

-- cuts as they were and as they are now; the first `made` rows are the stretches that end before the cut i
pub record Emitting (group : Row) (by : List ℕ) (before after : List Row) (made i : ℕ) : Type 0 where
  pub behind : made < i
  pub few : made ≤ length before
  pub front : take made after ++ stretches_by group by (drop (i - 1) before) ≡ stretches_by group by before
  pub rest : drop (i - 1) after ≡ drop (i - 1) before

pub emitting_none : (group : Row) (by : List ℕ) (cs : List Row) → Emitting group by cs cs 0 1
emitting_none group by cs = record { behind = omega arith; few = omega arith; front = refl; rest = refl }

-- of fewer than two cuts there is no stretch
no_stretch : (group : Row) (by : List ℕ) (cs : List Row) → length cs ≤ 1 → stretches_by group by cs ≡ []
no_stretch group by [] h = refl
no_stretch group by (c ∷ []) h = refl
no_stretch group by (c ∷ next ∷ cs) h = absurd (omega arith)

module _ (group : Row) (by : List ℕ) (before after : List Row) (made i : ℕ) (a : Emitting group by before after made i) where
  pub emitting_all : length before ≤ i → take made after ≡ stretches_by group by before
  emitting_all le =
      sym (append-nil (take made after))
      ∙ ap (λ xs. take made after ++ xs) (sym (no_stretch group by (drop (i - 1) before) (omega (arith, length-drop (i - 1) before))))
      ∙ a.front

  module _ (same : length after ≡ length before) (start : 1 ≤ i) (lt : i < length before) where
    abbrev c : Row
    c = get_or after (i - 1) no_row

    abbrev next : Row
    next = get_or after i no_row

    -- what is left has a cut, the next one and the rest, as they were
    two : (cs : List Row) → length cs ≡ length before → drop (i - 1) cs ≡ get_or cs (i - 1) no_row ∷ get_or cs i no_row ∷ drop (i + 1) cs
    two cs long =
        let on : i - 1 + 1 ≡ i = omega arith in
        drop_more cs (i - 1) no_row (omega arith) ∙ ap (λ t. get_or cs (i - 1) no_row ∷ t) (ap (λ k. drop k cs) on ∙ drop_more cs i no_row (omega arith))

    left_is : drop (i - 1) before ≡ c ∷ next ∷ drop (i + 1) after
    left_is = sym a.rest ∙ two after same

    rest_is : drop (i + 1 - 1) before ≡ next ∷ drop (i + 1) after
    rest_is =
        let on : i + 1 - 1 ≡ i - 1 + 1 = omega arith in
        ap (λ k. drop k before) on ∙ sym (drop-drop 1 (i - 1) before) ∙ ap (drop 1) left_is

    abbrev later : List Row
    later = stretches_by group by (drop (i + 1 - 1) before)

    abbrev test : Bool
    test = lt_z (pos 0) (value 0 c) && ltb c.first next.first

    left_stretches : stretches_by group by (drop (i - 1) before) ≡ cond test (stretch_by group by c next ∷ later) later
    left_stretches = ap (stretches_by group by) left_is ∙ ap (λ t. cond test (stretch_by group by c next ∷ stretches_by group by t) (stretches_by group by t)) (sym rest_is)

    rest_still : drop (i + 1 - 1) after ≡ drop (i + 1 - 1) before
    rest_still =
        let on : i + 1 - 1 ≡ i = omega arith in
        ap (λ k. drop k after) on ∙ drop_more after i no_row (omega arith) ∙ sym rest_is

    pub emitting_skip : ((lt_z (pos 0) (value 0 c) ≡ true) × (next.first ≤ c.first)) ⊎ (lt_z (pos 0) (value 0 c) ≡ false) → Emitting group by before after made (i + 1)
    emitting_skip h = record {
      behind = omega (arith, a.behind);
      few = a.few;
      front = ap (λ xs. take made after ++ xs) (sym (cond-false test _ _ (off h)) ∙ sym left_stretches) ∙ a.front;
      rest = rest_still;
    }
      where
        off : ((lt_z (pos 0) (value 0 c) ≡ true) × (next.first ≤ c.first)) ⊎ (lt_z (pos 0) (value 0 c) ≡ false) → test ≡ false
        off (inl k) = and_right (lt_z (pos 0) (value 0 c)) (ltb c.first next.first) (le-ltb c.first next.first k.1)
        off (inr k) = and_left (lt_z (pos 0) (value 0 c)) (ltb c.first next.first) k

    pub emitting_one : (w : Row) → lt_z (pos 0) (value 0 c) ≡ true → c.first < next.first → w ≡ stretch_by group by c next → Emitting group by before (set after made w) (made + 1) (i + 1)
    emitting_one w h k is = record {
      behind = omega (arith, a.behind);
      few = omega (arith, a.behind);
      front =
          ap (λ xs. xs ++ later) (take_more_set after made w (omega (arith, a.behind)))
          ∙ append_assoc (take made after) (w ∷ []) later
          ∙ ap (λ xs. take made after ++ xs) (ap (λ v. v ∷ later) is ∙ sym (cond-true test _ _ (and_from (lt_z (pos 0) (value 0 c)) (ltb c.first next.first) h (lt-ltb c.first next.first k))) ∙ sym left_stretches)
          ∙ a.front;
      rest = drop-set-lt (i + 1 - 1) after made w (omega (arith, a.behind)) ∙ rest_still;
    }

-- where the two ways meet
pub met : (group : Row) (by : List ℕ) (before : List Row) (i : ℕ) (after cuts : List Row) (made n : ℕ) → cuts ≡ after → n ≡ made → Emitting group by before after made i → Emitting group by before cuts n i
met group by before i after cuts made n p q e = subst (λ k. Emitting group by before cuts k i) (sym q) (subst (λ cs. Emitting group by before cs made i) (sym p) e)
