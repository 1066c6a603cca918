-- The groups of gathered rows are tallied one after the other, from turn to turn.
use Rattle.std.proofs.Common.{◌≡◌, ℕ, ◌+◌, ◌-◌, ◌*◌, ◌<◌, ◌≤◌, Bool, true, false, cond, ◌&&◌, ◌⊎◌, List, [], ◌∷◌, ◌++◌, length, get_or, take, drop, pos, filter, sym, refl, ap, ◌∙◌, subst, ap₂, inl, inr, arith}
use borrow.Rule.Slice.PartMut.{put_mid}
use Rattle.std.specs.List.{between, AllByRecursion as AllOf}
use Rattle.std.proofs.lemmas.List.Edits.{split_between, length-between, get_or-between}
use Rattle.std.proofs.lemmas.List.Elements.{filter-append}
use Rattle.std.proofs.ByRecursion.{All-get_or, All-from_get_or}
use Rattle.std.proofs.lemmas.List.{append-nil, get_or_append_left, get_or-append_right, get_or-take, get_or-drop, length-drop, length-take, length-take-le}
use Rattle.std.proofs.lemmas.Bool.{cases_lt, cases_Bool, and_right}
use Rattle.relation.specs.declared.rows.Row.{Row}
use Rattle.relation.specs.Bounds.{most_columns}
use Rattle.relation.specs.Operations.{picked}
use Rattle.relation.specs.Sets.{equal}
use Rattle.relation.specs.Rows.{Period, Holds, holds}
use Rattle.relation.specs.Stored.{firsts}
use Rattle.relation.proofs.TupleSets.{equal_decides}
use Rattle.collect.specs.Areas.{no_row, bare}
use Rattle.tallies.specs.declared.rules.Tally.{Tally}
use Rattle.cuts.specs.Amounts.{held, amount}
use Rattle.cuts.specs.Groups.{tuple_by, HeldIn, Gives}
use Rattle.tally.specs.Gathered.{Alike, Together, Run}
use Rattle.tally.specs.Results.{in_group, Says, Results}

-- ---- a filter that is the same on a part, and keeps nothing elsewhere

kept_none : {X : Type 0} (p : X → Bool) (xs : List X) → AllOf (λ x. p x ≡ false) xs → filter p xs ≡ []
kept_none p [] h = refl
kept_none p (x ∷ xs) h = ap (λ b. cond b (x ∷ filter p xs) (filter p xs)) h.0 ∙ kept_none p xs h.1

kept_same : {X : Type 0} (p q : X → Bool) (xs : List X) → AllOf (λ x. p x ≡ q x) xs → filter p xs ≡ filter q xs
kept_same p q [] h = refl
kept_same p q (x ∷ xs) h = λ k. cond (h.0 k) (x ∷ kept_same p q xs h.1 k) (kept_same p q xs h.1 k)

kept_part : {X : Type 0} (p q : X → Bool) (xs : List X) (from upto : ℕ) → from ≤ upto → AllOf (λ x. p x ≡ false) (take from xs) → AllOf (λ x. p x ≡ q x) (between from upto xs) → AllOf (λ x. p x ≡ false) (drop upto xs) → filter p xs ≡ filter q (between from upto xs)
kept_part p q xs from upto le before within after =
    ap (filter p) (split_between xs from upto le)
    ∙ filter-append p (take from xs) (between from upto xs ++ drop upto xs)
    ∙ ap₂ (λ s t. s ++ t) (kept_none p (take from xs) before) (filter-append p (between from upto xs) (drop upto xs) ∙ ap₂ (λ s t. s ++ t) (kept_same p q (between from upto xs) within) (kept_none p (drop upto xs) after))
    ∙ append-nil (filter q (between from upto xs))

and_true : (a b : Bool) → b ≡ true → (a && b) ≡ a
and_true true b e = e
and_true false b e = refl

-- ---- the area behind what has been made, lent and given back

module _ (out part : List Row) (made : ℕ) (le : made ≤ length out) where
  abbrev pub given : List Row
  given = put_mid made (length out - made) out part

  pub given_still : (k : ℕ) → k < made → get_or given k no_row ≡ get_or out k no_row
  given_still k lt = get_or_append_left (take made out) _ no_row k (omega (arith, length-take-le made out le)) ∙ get_or-take made out k no_row lt

  pub given_new : (j : ℕ) → j < length part → get_or given (made + j) no_row ≡ get_or part j no_row
  given_new j lt =
      let at : made + j - made ≡ j = omega arith in
      get_or-append_right (take made out) _ made (made + j) no_row (length-take-le made out le) (omega arith)
      ∙ ap (λ k. get_or (part ++ drop (length out - made) (drop made out)) k no_row) at
      ∙ get_or_append_left part _ no_row j lt

-- ---- the state

-- of the rows ws the groups of those before `from` are tallied into the first `made` rows of `out`
pub record Running (m : Tally) (by : List ℕ) (ws out : List Row) (from made : ℕ) : Type 0 where
  pub reached : from ≤ length ws
  pub few : made ≤ 2 * from
  pub fresh : (i : ℕ) → i < from → from < length ws → Alike by (get_or ws i no_row) (get_or ws from no_row) → ⊥
  pub periods : (k : ℕ) → k < made → Period (bare (get_or out k no_row))
  pub sound : (k d : ℕ) → k < made → Holds (bare (get_or out k no_row)) d → (i : ℕ) × ((i < length ws) × (Holds (bare (get_or ws i no_row)) d × Says m by ws d (get_or ws i no_row) (get_or out k no_row)))
  pub whole : (i d : ℕ) → i < from → Holds (bare (get_or ws i no_row)) d → (k : ℕ) × ((k < made) × Says m by ws d (get_or ws i no_row) (get_or out k no_row))

module _ (m : Tally) (by : List ℕ) (ws out : List Row) (from made : ℕ) (a : Running m by ws out from made) where
  -- at the end
  pub running_all : length ws ≤ from → made ≤ length out → Results m by ws (take made out)
  running_all done room =
      let long : length (take made out) ≡ made = length-take-le made out room in
      let at : (k : ℕ) → k < made → get_or (take made out) k no_row ≡ get_or out k no_row = λ k lt. get_or-take made out k no_row lt in
      record {
        periods = λ k lt. subst (λ w. Period (bare w)) (sym (at k (omega arith))) (a.periods k (omega arith));
        sound = λ k d lt h.
            let s = a.sound k d (omega arith) (subst (λ w. Holds (bare w) d) (at k (omega arith)) h) in
            (s.0, (s.1.0, (s.1.1.0, subst (Says m by ws d (get_or ws s.0 no_row)) (sym (at k (omega arith))) s.1.1.1)));
        whole = λ i d lt h.
            let s = a.whole i d (omega arith) h in
            (s.0, (omega (arith, s.1.0, long), subst (Says m by ws d (get_or ws i no_row)) (sym (at s.0 s.1.0)) s.1.1));
      }

  module _ (together : Together by ws) (lt : from < length ws) (upto : ℕ) (run : Run by ws from upto) where
    -- whether a row is of g's group
    other_group : (v g : Row) (d : ℕ) → (Alike by v g → ⊥) → (holds (bare v) d && equal (picked by v.values) (picked by g.values)) ≡ false
    other_group v g d no_one = and_right (holds (bare v) d) (equal (picked by v.values) (picked by g.values)) (step (cases_Bool (equal (picked by v.values) (picked by g.values))))
      where
        step : (equal (picked by v.values) (picked by g.values) ≡ true) ⊎ (equal (picked by v.values) (picked by g.values) ≡ false) → equal (picked by v.values) (picked by g.values) ≡ false
        step (inl e) = absurd (no_one ((equal_decides (picked by v.values) (picked by g.values)).0 e))
        step (inr e) = e

    own_group : (v g : Row) (d : ℕ) → Alike by v g → (holds (bare v) d && equal (picked by v.values) (picked by g.values)) ≡ holds (bare v) d
    own_group v g d e = and_true (holds (bare v) d) (equal (picked by v.values) (picked by g.values)) ((equal_decides (picked by v.values) (picked by g.values)).1 e)

    -- the group of a row of the run is the run
    group_run : (g : Row) (d : ℕ) → Alike by g (get_or ws from no_row) → in_group by g d ws ≡ held (between from upto ws) d
    group_run g d of =
        let s = run.some in
        kept_part (λ w. holds (bare w) d && equal (picked by w.values) (picked by g.values)) (λ w. holds (bare w) d) ws from upto (omega arith)
        (All-from_get_or _ (take from ws) no_row (λ k l.
        let b : k < from = omega (arith, length-take from ws) in
        subst (λ w. (holds (bare w) d && equal (picked by w.values) (picked by g.values)) ≡ false) (sym (get_or-take from ws k no_row b))
        (other_group (get_or ws k no_row) g d (λ e. a.fresh k b lt (e ∙ of)))))
        (All-from_get_or _ (between from upto ws) no_row (λ k l.
        let b : from + k < upto = omega (arith, length-between ws from upto (omega (arith, run.within))) in
        subst (λ w. (holds (bare w) d && equal (picked by w.values) (picked by g.values)) ≡ holds (bare w) d) (sym (get_or-between ws from upto k no_row b))
        (own_group (get_or ws (from + k) no_row) g d (run.alike (from + k) (omega arith) b ∙ sym of))))
        (All-from_get_or _ (drop upto ws) no_row (λ k l.
        let b : upto + k < length ws = omega (arith, length-drop upto ws) in
        subst (λ w. (holds (bare w) d && equal (picked by w.values) (picked by g.values)) ≡ false) (sym (get_or-drop upto ws k no_row))
        (other_group (get_or ws (upto + k) no_row) g d (λ e. run.ends (omega arith) (together from upto (upto + k) (omega arith) (omega arith) b (sym (e ∙ of)))))))

    abbrev group : List Row
    group = between from upto ws

    -- a row of the group, by its index in the group and in the rows
    group_at : (j : ℕ) → from + j < upto → get_or group j no_row ≡ get_or ws (from + j) no_row
    group_at j l = get_or-between ws from upto j no_row l

    -- a row of the run's tally says what the group comes to
    says_run : (i d : ℕ) (u : Row) → from ≤ i → i < upto → Holds (bare u) d → u.values ≡ tuple_by (get_or group 0 no_row) by (amount m (held group d)) → Says m by ws d (get_or ws i no_row) u
    says_run i d u low high h is =
        let of = run.alike i low high in
        let here : from + 0 ≡ from = omega arith in
        let zeroth : get_or group 0 no_row ≡ get_or ws from no_row = group_at 0 (omega arith) ∙ ap (λ k. get_or ws k no_row) here in
        (h, is ∙ ap₂ (λ ps z. firsts most_columns (ps ++ (z ∷ [])) (pos 0)) (ap (λ g. picked by g.values) zeroth ∙ sym of) (ap (amount m) (sym (group_run (get_or ws i no_row) d of))))

    module _ (out' part : List Row) (r : ℕ)
        (few' : r ≤ 2 * length group) (room : r ≤ length part)
        (still : (k : ℕ) → k < made → get_or out' k no_row ≡ get_or out k no_row)
        (new : (j : ℕ) → j < r → get_or out' (made + j) no_row ≡ get_or part j no_row)
        (periods' : AllOf (λ w. Period (bare w)) (take r part))
        (gives : (j d : ℕ) → j < r → Holds (bare (get_or part j no_row)) d → Gives m by group d (get_or part j no_row))
        (all : (d : ℕ) → HeldIn group d → HeldIn (take r part) d) where
      size : length group ≡ upto - from
      size = length-between ws from upto run.within

      -- the new rows, by their index in the area
      new_at : (k : ℕ) → made ≤ k → k < made + r → get_or out' k no_row ≡ get_or part (k - made) no_row
      new_at k low high = let is : made + (k - made) ≡ k = omega arith in ap (λ j. get_or out' j no_row) (sym is) ∙ new (k - made) (omega arith)

      new_period : (k : ℕ) → made ≤ k → k < made + r → Period (bare (get_or out' k no_row))
      new_period k low high =
          let long : length (take r part) ≡ r = length-take-le r part room in
          let l : k - made < r = omega arith in
          subst (λ w. Period (bare w)) (sym (new_at k low high ∙ sym (get_or-take r part (k - made) no_row l))) (All-get_or (λ w. Period (bare w)) (take r part) (k - made) no_row (omega arith) periods')

      new_gives : (k d : ℕ) → made ≤ k → k < made + r → Holds (bare (get_or out' k no_row)) d → Gives m by group d (get_or out' k no_row)
      new_gives k d low high h = subst (Gives m by group d) (sym (new_at k low high)) (gives (k - made) d (omega arith) (subst (λ w. Holds (bare w) d) (new_at k low high) h))

      fresh_next : (i : ℕ) → i < upto → upto < length ws → Alike by (get_or ws i no_row) (get_or ws upto no_row) → ⊥
      fresh_next i l b e = step (cases_lt i from)
        where
          step : (i < from) ⊎ (from ≤ i) → ⊥
          step (inl c) = a.fresh i c lt (sym (together i from upto (omega arith) (omega (arith, run.some)) (omega arith) e))
          step (inr c) = run.ends (omega arith) (sym e ∙ run.alike i c l)

      period_next : (k : ℕ) → k < made + r → Period (bare (get_or out' k no_row))
      period_next k high = step (cases_lt k made)
        where
          step : (k < made) ⊎ (made ≤ k) → Period (bare (get_or out' k no_row))
          step (inl l) = subst (λ w. Period (bare w)) (sym (still k l)) (a.periods k l)
          step (inr l) = new_period k l high

      sound_next : (k d : ℕ) → k < made + r → Holds (bare (get_or out' k no_row)) d → (i : ℕ) × ((i < length ws) × (Holds (bare (get_or ws i no_row)) d × Says m by ws d (get_or ws i no_row) (get_or out' k no_row)))
      sound_next k d high h = step (cases_lt k made)
        where
          step : (k < made) ⊎ (made ≤ k) → (i : ℕ) × ((i < length ws) × (Holds (bare (get_or ws i no_row)) d × Says m by ws d (get_or ws i no_row) (get_or out' k no_row)))
          step (inl l) =
              let s = a.sound k d l (subst (λ w. Holds (bare w) d) (still k l) h) in
              (s.0, (s.1.0, (s.1.1.0, subst (Says m by ws d (get_or ws s.0 no_row)) (sym (still k l)) s.1.1.1)))
          step (inr l) =
              let g = new_gives k d l high h in
              let j = g.some.0 in
              let b : from + j < upto = omega (arith, g.some.1.0, size) in
              (from + j, (omega (arith, run.within), (subst (λ w. Holds (bare w) d) (group_at j b) g.some.1.1, says_run (from + j) d (get_or out' k no_row) (omega arith) b h g.values)))

      whole_next : (i d : ℕ) → i < upto → Holds (bare (get_or ws i no_row)) d → (k : ℕ) × ((k < made + r) × Says m by ws d (get_or ws i no_row) (get_or out' k no_row))
      whole_next i d l h = step (cases_lt i from)
        where
          step : (i < from) ⊎ (from ≤ i) → (k : ℕ) × ((k < made + r) × Says m by ws d (get_or ws i no_row) (get_or out' k no_row))
          step (inl c) =
              let s = a.whole i d c h in
              (s.0, (omega (arith, s.1.0), subst (Says m by ws d (get_or ws i no_row)) (sym (still s.0 s.1.0)) s.1.1))
          step (inr c) =
              let is : from + (i - from) ≡ i = omega arith in
              let f = all d (i - from, (omega (arith, size), subst (λ w. Holds (bare w) d) (sym (group_at (i - from) (omega arith) ∙ ap (λ j. get_or ws j no_row) is)) h)) in
              let j = f.0 in
              let b : j < r = omega (arith, f.1.0, length-take-le r part room) in
              let held' : Holds (bare (get_or out' (made + j) no_row)) d = subst (λ w. Holds (bare w) d) (get_or-take r part j no_row b ∙ sym (new j b)) f.1.1 in
              let g = new_gives (made + j) d (omega arith) (omega arith) held' in
              (made + j, (omega arith, says_run i d (get_or out' (made + j) no_row) c l held' g.values))

      pub running_more : Running m by ws out' upto (made + r)
      running_more = record {
        reached = run.within;
        few = omega (arith, a.few, run.some, size);
        fresh = fresh_next;
        periods = period_next;
        sound = sound_next;
        whole = whole_next;
      }
