-- A part of the rows as a table, and its canonical list.
use Rattle.std.proofs.Common.{◌≡◌, ℕ, zero, suc, ◌+◌, ◌-◌, ◌<◌, ◌≤◌, min, Bool, true, false, ◌&&◌, ltb, leb, List, [], ◌∷◌, ◌++◌, map, length, get_or, take, drop, None, Result, Ordering, Less, Equal, Greater, sym, refl, ap, ◌∙◌, subst, ap₂, inl, inr, arith}
use Rattle.std.proofs.lemmas.List.{length-take, length-drop, get_or-drop, map_more, append-nil, take_at, take-take, length-append}
use Rattle.std.proofs.lemmas.Bool.{cases_lt, and_parts, and_from, lt-ltb, le-leb, ltb-true, leb-true, both_ways, or_left, or_right, or_cases}
use Rattle.std.specs.List.{list_all, AllByRecursion as AllOf}
use Rattle.std.specs.Cmp.Lexicographic.{slice_cmp}
use Rattle.std.specs.Ordering.{is_lt, int_cmp}
use Rattle.std.proofs.ByRecursion.{All-get_or, All-from_get_or}
use Rattle.relation.specs.declared.rows.Row.{Row}
use Rattle.relation.specs.declared.kinds.Kind.{Kind}
use Rattle.relation.specs.declared.refusals.Refusal.{Refusal}
use Rattle.relation.specs.Bounds.{most_columns, most_places, most_stored}
use Rattle.relation.specs.Rows.{SpecRow, Ahead, Listed, Day, Period, Holds, is_period, Lists, on}
use Rattle.relation.specs.Stored.{meant, stored}
use Rattle.relation.proofs.Every.{every_at}
use Rattle.relation.proofs.Fewest.{fewest}
use Rattle.relation.specs.Sets.{equal}
use Rattle.relation.proofs.TupleSets.{equal_decides}
use Rattle.relation.proofs.Held.{In, day_set}
use Rattle.source.specs.Meaning.{Meaning, fits, rows_below, rows_of, filled?}
use Rattle.source.specs.Tables.{table, no_row, all_periods, all_fit, no_part}
use Rattle.std.proofs.lemmas.List.Folds.{list_all-map}
use Rattle.source.proofs.Cells.{fits_length}
use Rattle.source.proofs.TableRows.{row_in, row_out}
use Rattle.collect.specs.Collects.{Collects}
use Rattle.collect.proofs.Gathered.{meant_stored}
use Rattle.collect.proofs.Indexed.{no_spec, any_to_index, any_from_index}
use Rattle.tree.specs.declared.Node.{Node}
use Rattle.register.specs.Layout.{part_of, is_few, is_ahead, is_listed, good_row}
use Rattle.register.specs.Refusals.{work_no}

-- ---- listing order, as a test

ahead_test : (r s : SpecRow) → Ahead r s → is_ahead r s ≡ true
ahead_test r s (inl b) = or_left (is_lt (slice_cmp int_cmp r.tuple s.tuple)) _ (ap is_lt b)
ahead_test r s (inr e) = or_right (is_lt (slice_cmp int_cmp r.tuple s.tuple)) _ (and_from (equal r.tuple s.tuple) (ltb r.first s.first) ((equal_decides r.tuple s.tuple).1 e.0) (lt-ltb r.first s.first e.1))

less_from : (o : Ordering) → is_lt o ≡ true → o ≡ Less
less_from Less h = refl
less_from Equal h = absurd (both_ways false refl h)
less_from Greater h = absurd (both_ways false refl h)

ahead_from : (r s : SpecRow) → is_ahead r s ≡ true → Ahead r s
ahead_from r s h = elim (or_cases (is_lt (slice_cmp int_cmp r.tuple s.tuple)) (equal r.tuple s.tuple && ltb r.first s.first) h) [
  | inl l ↦ inl (less_from (slice_cmp int_cmp r.tuple s.tuple) l)
  | inr e ↦ let p = and_parts (equal r.tuple s.tuple) (ltb r.first s.first) e in inr ((equal_decides r.tuple s.tuple).0 p.0, ltb-true r.first s.first p.1)
]

all_ahead : (r : SpecRow) (rows : List SpecRow) → AllOf (Ahead r) rows → list_all (is_ahead r) rows ≡ true
all_ahead r [] h = refl
all_ahead r (s ∷ rows) h = and_from (is_ahead r s) (list_all (is_ahead r) rows) (ahead_test r s h.0) (all_ahead r rows h.1)

ahead_all : (r : SpecRow) (rows : List SpecRow) → list_all (is_ahead r) rows ≡ true → AllOf (Ahead r) rows
ahead_all r [] h = tt
ahead_all r (s ∷ rows) h = let p = and_parts (is_ahead r s) (list_all (is_ahead r) rows) h in (ahead_from r s p.0, ahead_all r rows p.1)

pub listed_test : (rows : List SpecRow) → Listed rows → is_listed rows ≡ true
listed_test [] h = refl
listed_test (r ∷ rows) h = and_from (list_all (is_ahead r) rows) (is_listed rows) (all_ahead r rows h.0) (listed_test rows h.1)

listed_from : (rows : List SpecRow) → is_listed rows ≡ true → Listed rows
listed_from [] h = tt
listed_from (r ∷ rows) h = let p = and_parts (list_all (is_ahead r) rows) (is_listed rows) h in (ahead_all r rows p.0, listed_from rows p.1)

-- ---- the rows of a table

-- rows that are good have periods, and values within the bounds of their kinds
pub all_good : (ks : List Kind) (xs : List Row) → list_all (λ w. good_row ks (meant (length ks) w)) xs ≡ true → (all_periods xs ≡ true) × (all_fit ks xs ≡ true)
all_good ks [] h = (refl, refl)
all_good ks (w ∷ xs) h =
    let here = and_parts (good_row ks (meant (length ks) w)) _ h in
    let both = and_parts (is_period w.first w.end) (fits ks (meant (length ks) w).tuple) here.0 in
    let rest = all_good ks xs here.1 in
    (and_from (is_period w.first w.end) _ both.0 rest.0, and_from (fits ks (meant (length ks) w).tuple) _ both.1 rest.1)

module _ (rows : List Row) (start len : ℕ) (ks : List Kind) (within : start + len ≤ length rows) where
  abbrev upto : ℕ → List SpecRow
  upto k = map (meant (length ks)) (take (min k (start + len) - start) (drop start rows))

  upto_same : (k : ℕ) → (min (suc k) (start + len) - start ≡ min k (start + len) - start) → upto k ++ [] ≡ upto (suc k)
  upto_same k e = append-nil (upto k) ∙ ap (λ j. map (meant (length ks)) (take j (drop start rows))) (sym e)

  step : (k : ℕ) → k < length rows → upto k ++ filled? ((table rows start len ks).at k) ≡ upto (suc k)
  step k h = elim (cases_lt k start) [
    | inl low ↦ ap (λ o. upto k ++ filled? o) (sym (row_out rows start len ks k (λ a b c. omega arith))) ∙ upto_same k (omega arith)
    | inr from ↦ elim (cases_lt k (start + len)) [
      | inl in-it ↦
          let i = k - start in
          let one : get_or (drop start rows) i no_row ≡ get_or rows k no_row = get_or-drop start rows i no_row ∙ ap (λ x. get_or rows x no_row) (omega arith) in
          let n : min k (start + len) - start ≡ i = omega arith in
          let m : i + 1 ≡ min (suc k) (start + len) - start = omega arith in
          ap (λ o. upto k ++ filled? o) (sym (row_in rows start len ks k no_row from in-it h))
          ∙ (ap (λ j. map (meant (length ks)) (take j (drop start rows)) ++ meant (length ks) (get_or rows k no_row) ∷ []) n
          ∙ (ap (λ x. map (meant (length ks)) (take i (drop start rows)) ++ meant (length ks) x ∷ []) (sym one)
          ∙ (sym (map_more (meant (length ks)) (drop start rows) i no_row (simp length-drop (omega arith)))
          ∙ ap (λ j. map (meant (length ks)) (take j (drop start rows))) m)))
      | inr past ↦ ap (λ o. upto k ++ filled? o) (sym (row_out rows start len ks k (λ a b c. omega arith))) ∙ upto_same k (omega arith)
    ]
  ]

  below : (k : ℕ) → k ≤ length rows → rows_below (table rows start len ks) k ≡ upto k
  below zero h = sym (ap (λ j. map (meant (length ks)) (take j (drop start rows))) {x = min 0 (start + len) - start} {y = 0} (omega arith))
  below (suc k) h = ap (λ l. l ++ filled? ((table rows start len ks).at k)) (below k (omega arith)) ∙ step k (omega arith)

  pub table_rows : rows_of (table rows start len ks) ≡ part_of ks start len rows
  table_rows = below (length rows) (omega arith) ∙ ap (λ j. map (meant (length ks)) (take j (drop start rows))) (omega arith)

  -- rows that are good make an accepted table, known to be listed where they are
  -- good rows are a table
  pub part_allowed : length rows ≤ most_stored → is_few ks ≡ true → list_all (good_row ks) (part_of ks start len rows) ≡ true → no_part rows start len ks ≡ None
  part_allowed few_rows few good =
      let xs = take len (drop start rows) in
      let b = all_good ks xs (sym (list_all-map (good_row ks) (meant (length ks)) xs) ∙ good) in
      let places : leb (length rows) most_places ≡ true = le-leb (length rows) most_places (omega arith) in
      rw (few, b.0, b.1, places)

-- what collecting a source leaves, by its rows
pub collected_as : (m : Meaning) (xs : List SpecRow) (work : List Row) (index : List Node) (r : Result ℕ Refusal) (work' : List Row) (index' : List Node) → rows_of m ≡ xs →
    Collects (work_no (length (rows_of m)) work index) (on (rows_of m)) work index r work' index' → Collects (work_no (length xs) work index) (on xs) work index r work' index'
collected_as m xs work index r work' index' e h = subst (λ ys. Collects (work_no (length ys) work index) (on ys) work index r work' index') e h

-- ---- the canonical list of good rows

good_period : (ks : List Kind) (r : SpecRow) → good_row ks r ≡ true → Period r
good_period ks r g =
    let q = and_parts (is_period r.first r.end) (fits ks r.tuple) g in
    let p = and_parts _ _ q.0 in
    (ltb-true _ _ p.0, leb-true _ _ p.1)

module _ (ks : List Kind) (xs list : List SpecRow) (good : list_all (good_row ks) xs ≡ true) (lists : Lists list (on xs)) where
  pub list_short : length list ≤ length xs
  list_short = fewest list xs lists.canonical (All-from_get_or Period xs no_spec (λ k lt. good_period ks (get_or xs k no_spec) (every_at (good_row ks) xs no_spec k good lt))) lists.sets

  list_fits : (k : ℕ) → k < length list → good_row ks (get_or list k no_spec) ≡ true
  list_fits k lt =
      let r = get_or list k no_spec in
      let d = r.first in
      let t = r.tuple in
      let p : Period r = All-get_or Period list k no_spec lt lists.canonical.periods in
      let day : Day d = omega arith in
      let here : In list d t = any_from_index (λ x. (x.tuple ≡ t) × Holds x d) list no_spec k lt (refl, (omega arith, p.0)) in
      let there : In xs d t = (day_set xs d t).0 ((lists.sets d day t).0 ((day_set list d t).1 here)) in
      let i = any_to_index (λ x. (x.tuple ≡ t) × Holds x d) xs no_spec there in
      let x = get_or xs i.0 no_spec in
      let g = and_parts (is_period x.first x.end) (fits ks x.tuple) (every_at (good_row ks) xs no_spec i.0 good i.1.0) in
      and_from (is_period r.first r.end) (fits ks r.tuple) (and_from _ _ (lt-ltb _ _ p.0) (le-leb _ _ p.1)) (ap (fits ks) (sym i.1.1.0) ∙ g.1)

  pub list_good : AllOf (λ r. good_row ks r ≡ true) list
  list_good = All-from_get_or (λ r. good_row ks r ≡ true) list no_spec list_fits

pub every_all : {X : Type 0} (p : X → Bool) (xs : List X) → AllOf (λ x. p x ≡ true) xs → list_all p xs ≡ true
every_all p [] h = refl
every_all p (x ∷ xs) h = and_from (p x) (list_all p xs) h.0 (every_all p xs h.1)

-- what is stored means the list again
pub stored_back : (ks : List Kind) (c : ℕ) (list : List SpecRow) → length ks ≡ c → c ≤ most_columns → AllOf (λ r. good_row ks r ≡ true) list → map (meant c) (map stored list) ≡ list
stored_back ks c [] e few h = refl
stored_back ks c (r ∷ list) e few h =
    let f = (and_parts (is_period r.first r.end) (fits ks r.tuple) h.0).1 in
    ap₂ ◌∷◌ (meant_stored c r few (fits_length ks r.tuple f ∙ e)) (stored_back ks c list e few h.1)

-- the front of a work area
pub front_is : {X : Type 0} (work new rest : List X) (c n : ℕ) → take c work ≡ new ++ rest → n ≡ length new → take n work ≡ new
front_is work new rest c n e k =
    let z : length (take c work) ≡ length new + length rest = ap length e ∙ length-append new rest in
    let w : length (take c work) ≡ min c (length work) = length-take c work in
    let le : n ≤ c = omega arith in
    sym (take-take n c work le) ∙ (ap (take n) e ∙ take_at new rest n (sym k))
