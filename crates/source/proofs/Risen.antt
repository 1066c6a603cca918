-- Lemmas on sources and tables whose tuples rise from place to place.
use Rattle.std.proofs.Common.{◌≡◌, ℕ, zero, suc, ◌+◌, ◌-◌, ◌<◌, ◌≤◌, min, Bool, true, false, not, Decides, List, [], ◌∷◌, map, length, get_or, take, drop, Some, Ordering, Less, Equal, Greater, sym, refl, ap, ◌∙◌, subst, ap₂, inl, inr, ⊎_elim, arith}
use Rattle.std.specs.Ordering.{is_lt, is_eq, int_cmp}
use Rattle.std.specs.Cmp.{int_cmp_total}
use Rattle.std.specs.Cmp.Lexicographic.{slice_cmp, lists_total}
use Rattle.std.specs.List.{AllAdjacentBelow, IsAllAdjacentAnswer}
use Rattle.std.specs.List.Sorted.{IsPartitionPoint, IsPartitionedBy}
use Rattle.std.proofs.lemmas.List.MinMax.{ranks_by}
use Rattle.std.proofs.ByRecursion.{All-get_or}
use Rattle.std.proofs.lemmas.List.{get_or_default, get_or-map, get_or-take, get_or-drop, length-map, length-take, length-drop}
use Rattle.std.proofs.lemmas.List.Sorted.{sorted_far}
use Rattle.std.proofs.lemmas.Bool.{both_ways, cases_lt, true≢false, false≢true}
use Rattle.relation.specs.declared.rows.Row.{Row}
use Rattle.relation.specs.declared.kinds.Kind.{Kind}
use Rattle.relation.specs.Sets.{Tuple, Below}
use Rattle.relation.specs.Lists.{Pairwise}
use Rattle.relation.specs.Rows.{SpecRow, Ahead, Listed}
use Rattle.relation.specs.Stored.{meant}
use Rattle.relation.proofs.Clear.{below_asym, below_irrefl}
use Rattle.source.specs.Meaning.{Meaning, Begins}
use Rattle.source.specs.Tables.{table, no_row, Rising, leading, Leads, LowerBound, NextLed}
use Rattle.source.proofs.Leads.{less_back, greater_on, begins_equal, equal_begins}
use Rattle.source.proofs.TableRows.{row_in, filled_at, part_is}

is_less : (o : Ordering) → is_lt o ≡ true → o ≡ Less
is_less Less h = refl
is_less Equal h = absurd (false≢true h)
is_less Greater h = absurd (false≢true h)

is_equal_lem : (o : Ordering) → is_eq o ≡ true → o ≡ Equal
is_equal_lem Less h = absurd (false≢true h)
is_equal_lem Equal h = refl
is_equal_lem Greater h = absurd (false≢true h)

-- ---- places on either side of one that stands to lead in a known way

module _ (m : Meaning) (lead : Tuple) (rise : Rising m) (i j : ℕ) (v w : SpecRow) (le : i ≤ j) (p : m.at i ≡ Some v) (q : m.at j ≡ Some w) where
  apart : i < j → Below w.tuple v.tuple → ⊥
  apart lt = rise.rise i j v w lt p q

  same : j ≤ i → v ≡ w
  same ge = let e : i ≡ j = omega arith in cc

  pub less_upto : leading w.tuple lead ≡ Less → leading v.tuple lead ≡ Less
  less_upto h = ⊎_elim (λ lt. less_back v.tuple w.tuple lead (apart lt) h) (λ ge. ap (λ r. leading r.tuple lead) (same ge) ∙ h) (cases_lt i j)

  pub greater_from : leading v.tuple lead ≡ Greater → leading w.tuple lead ≡ Greater
  greater_from h = ⊎_elim (λ lt. greater_on v.tuple w.tuple lead (apart lt) h) (λ ge. ap (λ r. leading r.tuple lead) (sym (same ge)) ∙ h) (cases_lt i j)

-- where a place leads with less, so do all before it
pub before_more : (m : Meaning) (lead : Tuple) → Rising m → (k : ℕ) (o : Ordering) → Leads m lead k o → true ≡ is_lt o → (p : ℕ) (w : SpecRow) → p < k + 1 → m.at p ≡ Some w → leading w.tuple lead ≡ Less
before_more m lead rise k o l h p w lt e = less_upto m lead rise p k w l.row (omega arith) e l.there (sym l.order ∙ is_less o (sym h))

-- where a place does not lead with less, no later one does
pub after_more : (m : Meaning) (lead : Tuple) → Rising m → (k : ℕ) (o : Ordering) → Leads m lead k o → false ≡ is_lt o → (p : ℕ) (w : SpecRow) → k ≤ p → m.at p ≡ Some w → leading w.tuple lead ≡ Less → ⊥
after_more m lead rise k o l h p w le e less = both_ways (is_lt o) (sym h) (ap is_lt (l.order ∙ less_upto m lead rise k p l.row w le l.there e less))

-- ---- the next place that begins with lead

led_here : (m : Meaning) (lead : Tuple) (k : ℕ) (o : Ordering) → Leads m lead k o → true ≡ is_eq o → (w : SpecRow) × ((m.at k ≡ Some w) × Begins lead w.tuple)
led_here m lead k o l h = (l.row, (l.there, equal_begins lead l.row.tuple (sym l.order ∙ is_equal_lem o (sym h))))

pub led_first : (m : Meaning) (lead : Tuple) (k : ℕ) (o : Ordering) → Leads m lead k o → true ≡ is_eq o → NextLed m lead k k
led_first m lead k o l h = record { none = record { on = omega arith; up = omega arith; skipped = λ p w le lt. absurd (omega arith) }; led = λ lt. led_here m lead k o l h }

module _ (m : Meaning) (lead : Tuple) (low high r : ℕ) (b : LowerBound m lead low high r) where
  none_before : (p : ℕ) (w : SpecRow) → low ≤ p → p < r → m.at p ≡ Some w → Begins lead w.tuple → ⊥
  none_before p w le lt e g = true≢false (sym (ap is_lt (sym (begins_equal lead w.tuple g) ∙ b.before p w le lt e)))

  pub led_found : r ≤ m.count → (o : Ordering) → Leads m lead r o → true ≡ is_eq o → NextLed m lead low r
  led_found up o l h = record { none = record { on = b.from; up = omega arith; skipped = none_before }; led = λ lt. led_here m lead r o l h }

  pub led_nowhere : Rising m → low ≤ m.count → ((p : ℕ) (w : SpecRow) → m.at p ≡ Some w → p < high) → (r < high → (o : Ordering) × (Leads m lead r o × (false ≡ is_eq o))) → NextLed m lead low m.count
  led_nowhere rise within upto other =
      record { none = record { on = within; up = omega arith; skipped = λ p w le lt e g. ⊎_elim (λ h. none_before p w le h e g) (λ h. none_from p w h (upto p w e) e g) (cases_lt p r) }; led = λ lt. absurd (omega arith) }
    where
      none_from : (p : ℕ) (w : SpecRow) → r ≤ p → p < high → m.at p ≡ Some w → Begins lead w.tuple → ⊥
      none_from p w le lt e g = step (leading t.1.0.row.tuple lead) refl
        where
          t : (o : Ordering) × (Leads m lead r o × (false ≡ is_eq o))
          t = other (omega arith)

          step : (k : Ordering) → leading t.1.0.row.tuple lead ≡ k → ⊥
          step Less h = b.after r t.1.0.row (omega arith) (omega arith) t.1.0.there h
          step Equal h = both_ways (is_eq t.0) (sym t.1.1) (ap is_eq (t.1.0.order ∙ h))
          step Greater h = true≢false (ap is_eq (sym (begins_equal lead w.tuple g) ∙ greater_from m lead rise r p t.1.0.row w le t.1.0.there e h))

-- ---- rows that are looked at one after the other

not_true : (b : Bool) → not b ≡ true → b ≡ false
not_true true h = absurd (false≢true h)
not_true false h = refl

not_false : (b : Bool) → false ≡ not b → b ≡ true
not_false true h = refl
not_false false h = absurd (false≢true h)

-- the tuple of b is not below that of a
abbrev pub Level : ℕ → Row → Row → Type 0
Level n a b = is_lt (slice_cmp int_cmp (meant n b).tuple (meant n a).tuple) ≡ false

module _ (rows : List Row) (ks : List Kind) where
  pub rising_rows : AllAdjacentBelow (Level (length ks)) rows (length rows) → Rising (table rows 0 (length rows) ks)
  rising_rows near = record {
    rise = λ i j r s lt p q b.
        let f = filled_at rows 0 (length rows) ks i r p in
        let g = filled_at rows 0 (length rows) ks j s q in
        let far = sorted_far (λ x y. is_lt (slice_cmp int_cmp (meant (length ks) x).tuple (meant (length ks) y).tuple)) (ranks_by (lists_total int_cmp_total) (λ x. (meant (length ks) x).tuple)) rows (λ k d z h. near k d h) i j no_row (omega arith) g.below in
        both_ways _ far (ap₂ (λ x y. is_lt (slice_cmp int_cmp x.tuple y.tuple)) g.row f.row ∙ ap is_lt b);
  }

  pub fallen : (i : ℕ) → 1 ≤ i → i < length rows → true ≡ is_lt (slice_cmp int_cmp (meant (length ks) (get_or rows i no_row)).tuple (meant (length ks) (get_or rows (i - 1) no_row)).tuple) → Rising (table rows 0 (length rows) ks) → ⊥
  fallen i some lt h rise =
      rise.rise (i - 1) i _ _ (omega arith) (sym (row_in rows 0 (length rows) ks (i - 1) no_row (omega arith) (omega arith) (omega arith))) (sym (row_in rows 0 (length rows) ks i no_row (omega arith) (omega arith) lt)) (is_less _ (sym h))

  -- the tuple of b is not below that of a, as a test
  abbrev pub rises : Row → Row → Bool
  rises a b = not (is_lt (slice_cmp int_cmp (meant (length ks) b).tuple (meant (length ks) a).tuple))

  pub order_told : (r : Bool) → IsAllAdjacentAnswer (λ a b t. t ≡ rises a b) rows r → Decides r (Rising (table rows 0 (length rows) ks))
  order_told true near = (λ e. rising_rows (λ k d h. not_true _ (sym (near k d h))), λ rise. refl)
  order_told false (k, lt, h) = (λ e. absurd (false≢true e), λ rise. absurd (fallen (k + 1) (omega arith) lt (sym (not_false _ (sym (ap (λ j. not (is_lt (slice_cmp int_cmp (meant (length ks) (get_or rows (k + 1) no_row)).tuple (meant (length ks) (get_or rows j no_row)).tuple))) (omega arith) ∙ sym (h no_row))))) rise))

-- ---- rows that stand in listing order

pairwise_get_d : {X : Type 0} (R : X → X → Type 0) (xs : List X) (d : X) (i j : ℕ) → Pairwise R xs → i < j → j < length xs → R (get_or xs i d) (get_or xs j d)
pairwise_get_d R [] d i j h lt l = absurd (omega arith)
pairwise_get_d R (x ∷ xs) d i zero h lt l = absurd (omega arith)
pairwise_get_d R (x ∷ xs) d zero (suc j) h lt l = All-get_or (R x) xs j d (omega arith) h.0
pairwise_get_d R (x ∷ xs) d (suc i) (suc j) h lt l = pairwise_get_d R xs d i j h.1 (omega arith) (omega arith)

ahead_rises : (r s : SpecRow) → Ahead r s → Below s.tuple r.tuple → ⊥
ahead_rises r s (inl b) h = below_asym r.tuple s.tuple b h
ahead_rises r s (inr e) h = below_irrefl s.tuple r.tuple (sym e.0) h

module _ (rows : List Row) (start len : ℕ) (ks : List Kind) where
  abbrev part : List SpecRow
  part = map (meant (length ks)) (take len (drop start rows))

  part_long : length part ≡ min len (length rows - start)
  part_long = length-map (take len (drop start rows)) (meant (length ks)) ∙ simp (length-take, length-drop)

  part_at : (k : ℕ) (w : SpecRow) → (table rows start len ks).at k ≡ Some w → get_or part (k - start) w ≡ w
  part_at k w e =
      let f = filled_at rows start len ks k w e in
      let back : start + (k - start) ≡ k = omega arith in
      get_or-map (meant (length ks)) (take len (drop start rows)) (k - start) no_row w (simp (length-take, length-drop) (omega arith))
      ∙ ap (meant (length ks)) (get_or-take len (drop start rows) (k - start) no_row (omega arith) ∙ get_or-drop start rows (k - start) no_row ∙ ap (λ x. get_or rows x no_row) back)
      ∙ f.row

  -- a part in listing order is a table whose tuples rise
  pub rising_listed : Listed part → Rising (table rows start len ks)
  rising_listed ahead = record {
    rise = λ i j r s lt p q.
        let f = filled_at rows start len ks i r p in
        let g = filled_at rows start len ks j s q in
        let two : Ahead (get_or part (i - start) s) (get_or part (j - start) s) = pairwise_get_d Ahead part s (i - start) (j - start) ahead (omega arith) (omega (arith, part_long)) in
        let first : get_or part (i - start) s ≡ r = get_or_default part (i - start) s r (omega (arith, part_long)) ∙ part_at i r p in
        ahead_rises r s (subst (λ x. Ahead x s) first (subst (Ahead (get_or part (i - start) s)) (part_at j s q) two));
  }

-- ---- a search by halves over the rows from one place up to another

module _ (rows : List Row) (start len : ℕ) (ks : List Kind) (lead : Tuple) (from past : ℕ) (xs : List Row) (order : Rising (table rows start len ks)) (after : start ≤ from) (within : past ≤ min (length rows) (start + len)) (long : length xs ≡ past - from) (at : (i : ℕ) (d : Row) → i < length xs → get_or xs i d ≡ get_or rows (from + i) d) where
  abbrev pub below : Row → Bool
  below w = is_lt (leading (meant (length ks) w).tuple lead)

  pub place : (i : ℕ) (d : Row) → i < length xs → (table rows start len ks).at (from + i) ≡ Some (meant (length ks) (get_or xs i d))
  place i d h = sym (row_in rows start len ks (from + i) d (omega arith) (omega (arith, long)) (omega (arith, long))) ∙ ap (λ w. Some (meant (length ks) w)) (sym (at i d h))

  pub parted : IsPartitionedBy below xs
  parted i j d le h e = ap is_lt (less_upto (table rows start len ks) lead order (from + i) (from + j) _ _ (omega arith) (place i d (omega arith)) (place j d h) (is_less _ e))

  pub bound_found : (r : ℕ) → r ≤ length xs → IsPartitionPoint (λ w. below w ≡ true) (λ w. below w ≡ false) xs r → from ≤ past → LowerBound (table rows start len ks) lead from past (from + r)
  bound_found r fits point le = record {
    from = omega arith;
    upto = omega (arith, long);
    before = λ p w a b e.
        let f = filled_at rows start len ks p w e in
        let back : from + (p - from) ≡ p = omega arith in
        let here : get_or xs (p - from) no_row ≡ get_or rows p no_row = at (p - from) no_row (omega (arith, long)) ∙ ap (λ i. get_or rows i no_row) back in
        is_less _ (ap (λ v. is_lt (leading v.tuple lead)) (sym (ap (meant (length ks)) here ∙ f.row)) ∙ point.0 (p - from) no_row (omega arith) (omega arith));
    after = λ p w a b e less.
        let f = filled_at rows start len ks p w e in
        let back : from + (p - from) ≡ p = omega arith in
        let here : get_or xs (p - from) no_row ≡ get_or rows p no_row = at (p - from) no_row (omega (arith, long)) ∙ ap (λ i. get_or rows i no_row) back in
        both_ways _ (ap (λ v. is_lt (leading v.tuple lead)) (sym (ap (meant (length ks)) here ∙ f.row)) ∙ point.1 (p - from) no_row (omega arith) (omega (arith, long))) (ap is_lt less);
  }

-- ---- the part of the rows from one place on, as a table of its own

module _ (rows : List Row) (start len : ℕ) (ks : List Kind) where
  abbrev some : List Row
  some = take len (drop start rows)

  long : length some ≡ min len (length rows - start)
  long = simp (length-take, length-drop)

  at : (i : ℕ) (d : Row) → i < length some → get_or some i d ≡ get_or rows (start + i) d
  at i d h = get_or-take len (drop start rows) i d (omega (arith, long)) ∙ get_or-drop start rows i d

  pub rising_part : Rising (table some 0 (length some) ks) → Rising (table rows start len ks)
  rising_part rise = record {
    rise = λ i j r s lt p q.
        let f = filled_at rows start len ks i r p in
        let g = filled_at rows start len ks j s q in
        let back : start + (i - start) ≡ i = omega arith in
        let forth : start + (j - start) ≡ j = omega arith in
        let first : meant (length ks) (get_or some (i - start) no_row) ≡ r = ap (meant (length ks)) (at (i - start) no_row (omega (arith, long)) ∙ ap (λ k. get_or rows k no_row) back) ∙ f.row in
        let second : meant (length ks) (get_or some (j - start) no_row) ≡ s = ap (meant (length ks)) (at (j - start) no_row (omega (arith, long)) ∙ ap (λ k. get_or rows k no_row) forth) ∙ g.row in
        rise.rise (i - start) (j - start) r s (omega arith)
        (sym (row_in some 0 (length some) ks (i - start) no_row (omega arith) (omega (arith, long)) (omega (arith, long))) ∙ ap Some first)
        (sym (row_in some 0 (length some) ks (j - start) no_row (omega arith) (omega (arith, long)) (omega (arith, long))) ∙ ap Some second);
  }

  pub part_rising : Rising (table rows start len ks) → Rising (table some 0 (length some) ks)
  part_rising rise = record {
    rise = λ i j r s lt p q.
        let f = filled_at some 0 (length some) ks i r p in
        let g = filled_at some 0 (length some) ks j s q in
        rise.rise (start + i) (start + j) r s (omega arith)
        (sym (row_in rows start len ks (start + i) no_row (omega arith) (omega (arith, long)) (omega (arith, long))) ∙ ap (λ w. Some (meant (length ks) w)) (sym (at i no_row (omega arith))) ∙ ap Some f.row)
        (sym (row_in rows start len ks (start + j) no_row (omega arith) (omega (arith, long)) (omega (arith, long))) ∙ ap (λ w. Some (meant (length ks) w)) (sym (at j no_row (omega arith))) ∙ ap Some g.row);
  }

-- the same of the part as it is cut out
pub part_told : (rows : List Row) (start len a n : ℕ) (ks : List Kind) (r : Bool) → a ≡ min start (length rows) → n ≡ min len (length (take (length rows - a) (drop a rows)))
    → Decides r (Rising (table (take n (take (length rows - a) (drop a rows))) 0 (length (take n (take (length rows - a) (drop a rows)))) ks)) → Decides r (Rising (table rows start len ks))
part_told rows start len a n ks r e f d =
    let t = subst (λ xs. Decides r (Rising (table xs 0 (length xs) ks))) (part_is rows start len a n e f) d in
    (λ h. rising_part rows start len ks (t.0 h), λ rise. t.1 (part_rising rows start len ks rise))
