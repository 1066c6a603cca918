-- Lemmas on a stored table.
use Rattle.std.specs.List.{slice_get}
use Rattle.std.proofs.lemmas.Option.{slice_get-get_or, slice_get_past}
use Rattle.std.specs.List.{list_all}
use Rattle.std.proofs.Common.{min, not, ◌-◌, ◌∙◌, take, drop, ◌≡◌, ℕ, zero, suc, ◌+◌, ◌<◌, ◌≤◌, Bool, true, false, cond, ◌&&◌, ltb, leb, List, [], ◌∷◌, length, get_or, Some, None, Option, sym, refl, ap, subst, ⊎_elim, arith}
use Rattle.std.proofs.lemmas.Bool.{and_from, and_parts, cases_lt, lt-ltb, le-leb, ltb-true, leb-true}
use Rattle.relation.specs.declared.rows.Row.{Row}
use Rattle.relation.specs.declared.kinds.Kind.{Kind}
use Rattle.relation.specs.Bounds.{most_columns, most_places}
use Rattle.relation.specs.Rows.{SpecRow, is_period}
use Rattle.relation.specs.Stored.{meant}
use Rattle.source.specs.Meaning.{fits, Sound}
use Rattle.source.specs.Tables.{meant?, table, Good, no_row, all_periods, all_fit, no_rows, no_table, no_part}
use Rattle.relation.specs.declared.refusals.Reason.{Reason}
use Rattle.std.proofs.lemmas.List.{length-take, length-drop, get_or-take, get_or-drop, take_all, take_min, drop_all}
use Rattle.std.proofs.Math.Seq.{take-length}
use Rattle.source.proofs.Cells.{cond_some}
use Rattle.relation.proofs.Every.{every_at}

module _ (rows : List Row) (start len : ℕ) (ks : List Kind) (k : ℕ) where
  pub row_in : (d : Row) → start ≤ k → k < start + len → k < length rows → Some (meant (length ks) (get_or rows k d)) ≡ (table rows start len ks).at k
  row_in d a b h = rw (le-leb start k a, lt-ltb k (start + len) b, slice_get-get_or rows k d h)

  out : (b : Bool) (x : Option SpecRow) → (b ≡ true → x ≡ None) → None ≡ cond b x None
  out true x h = sym (h refl)
  out false x h = refl

  pub row_out : (start ≤ k → k < start + len → k < length rows → ⊥) → None ≡ (table rows start len ks).at k
  row_out apart =
      out (leb start k && ltb k (start + len)) (meant? (length ks) (slice_get rows k)) (λ e.
      let both = and_parts (leb start k) (ltb k (start + len)) e in
      let past : length rows ≤ k = ⊎_elim (λ h. absurd (apart (leb-true start k both.0) (ltb-true k (start + len) both.1) h)) (λ h. h) (cases_lt k (length rows)) in
      ap (meant? (length ks)) (slice_get_past rows k past))

some_row : (rows : List Row) (k : ℕ) (n : ℕ) (r : SpecRow) → meant? n (slice_get rows k) ≡ Some r → (k < length rows) × (meant n (get_or rows k no_row) ≡ r)
some_row [] k n r h = let z : ◌≡◌ {A = ℕ} 0 1 = cc in absurd (omega arith)
some_row (x ∷ xs) zero n r h = (omega arith, cc)
some_row (x ∷ xs) (suc k) n r h = let t = some_row xs k n r h in (omega arith, t.1)

-- what is known of a place that is filled
pub record Filled (rows : List Row) (start len : ℕ) (ks : List Kind) (k : ℕ) (r : SpecRow) : Type 0 where
  pub from : start ≤ k
  pub upto : k < start + len
  pub below : k < length rows
  pub row : meant (length ks) (get_or rows k no_row) ≡ r

pub filled_at : (rows : List Row) (start len : ℕ) (ks : List Kind) (k : ℕ) (r : SpecRow) → (table rows start len ks).at k ≡ Some r → Filled rows start len ks k r
filled_at rows start len ks k r p =
    let c = cond_some (leb start k && ltb k (start + len)) (meant? (length ks) (slice_get rows k)) r p in
    let both = and_parts (leb start k) (ltb k (start + len)) c.0 in
    let row = some_row rows k (length ks) r c.1 in
    record { from = leb-true start k both.0; upto = ltb-true k (start + len) both.1; below = row.0; row = row.1 }

pub few_columns : (rows : List Row) (start len : ℕ) (ks : List Kind) → Sound (table rows start len ks) → length ks ≤ most_columns
few_columns rows start len ks s = s.few_kinds

-- a table is sound if its rows are good
pub table_sound : (rows : List Row) (start len : ℕ) (ks : List Kind) → 1 ≤ length ks → length ks ≤ most_columns → length rows ≤ most_places
    → ((i : ℕ) → i < start + len → start ≤ i → i < length rows → Good ks (meant (length ks) (get_or rows i no_row))) → Sound (table rows start len ks)
table_sound rows start len ks some few many each = record {
  some_kinds = some;
  few_kinds = few;
  few = many;
  filled = λ k r p.
      let f = filled_at rows start len ks k r p in
      let good = subst (Good ks) f.row (each k f.upto f.from f.below) in
      record { below = f.below; fitting = good.fitting; period = good.period };
}

-- a reason that does not apply
cleared : (b : Bool) (o : Reason) (q : Option Reason) → cond (not b) (Some o) q ≡ None → (b ≡ true) × (q ≡ None)
cleared true o q h = (refl, h)
cleared false o q h = let z : ◌≡◌ {A = ℕ} 0 1 = cc in absurd (omega arith)

-- rows that pass all tests are a table
pub part_stands : (rows : List Row) (start len : ℕ) (ks : List Kind) → no_part rows start len ks ≡ None → Sound (table rows start len ks)
part_stands rows start len ks h =
    let xs = take len (drop start rows) in
    let columns = cleared (leb 1 (length ks) && leb (length ks) most_columns) _ _ h in
    let some = and_parts (leb 1 (length ks)) (leb (length ks) most_columns) columns.0 in
    let periods = cleared (all_periods xs) _ _ columns.1 in
    let fit = cleared (all_fit ks xs) _ _ periods.1 in
    let places = cleared (leb (length rows) most_places) _ _ fit.1 in
    table_sound rows start len ks (leb-true 1 (length ks) some.0) (leb-true (length ks) most_columns some.1) (leb-true (length rows) most_places places.0)
    (λ i lt le below.
    let within : i - start < length xs = simp (length-take, length-drop) (omega arith) in
    let back : start + (i - start) ≡ i = omega arith in
    let here : get_or xs (i - start) no_row ≡ get_or rows i no_row = get_or-take len (drop start rows) (i - start) no_row (omega arith) ∙ get_or-drop start rows (i - start) no_row ∙ ap (λ j. get_or rows j no_row) back in
    let p = and_parts _ _ (every_at (λ w. is_period w.first w.end) xs no_row (i - start) periods.0 within) in
    subst (λ w. Good ks (meant (length ks) w)) here (record { fitting = every_at (λ w. fits ks (meant (length ks) w).tuple) xs no_row (i - start) fit.0 within; period = (ltb-true _ _ p.0, leb-true _ _ p.1) }))

-- all rows are the part from the first on
pub all_stand : (rows : List Row) (ks : List Kind) → no_table rows ks ≡ None → Sound (table rows 0 (length rows) ks)
all_stand rows ks h = part_stands rows 0 (length rows) ks (ap (λ xs. no_rows (length rows) xs ks) (take-length rows) ∙ h)

drop_low : (rows : List Row) (start a : ℕ) → a ≡ min start (length rows) → drop a rows ≡ drop start rows
drop_low rows start a e =
    ⊎_elim (λ lt. let same : a ≡ start = omega arith in ap (λ k. drop k rows) same)
    (λ le. drop_all a rows (omega arith) ∙ sym (drop_all start rows le))
    (cases_lt start (length rows))

-- the part of the rows that is cut out, where it may begin or end past the last row
pub part_is : (rows : List Row) (start len a n : ℕ) → a ≡ min start (length rows) → n ≡ min len (length (take (length rows - a) (drop a rows))) → take n (take (length rows - a) (drop a rows)) ≡ take len (drop start rows)
part_is rows start len a n e f =
    let whole : take (length rows - a) (drop a rows) ≡ drop a rows = take_all (length rows - a) (drop a rows) (simp (length-drop) (omega arith)) in
    ap (λ xs. take n xs) whole ∙ ap (λ k. take k (drop a rows)) (f ∙ ap (λ xs. min len (length xs)) whole) ∙ take_min len (drop a rows) ∙ ap (take len) (drop_low rows start a e)

-- ---- the rows of a table that is sound pass all tests

each_passes : {X : Type 0} (p : X → Bool) (xs : List X) (d : X) → ((i : ℕ) → i < length xs → p (get_or xs i d) ≡ true) → list_all p xs ≡ true
each_passes p [] d h = refl
each_passes p (x ∷ xs) d h = and_from (p x) (list_all p xs) (h 0 (omega arith)) (each_passes p xs d (λ i lt. h (suc i) (omega arith)))

pub sound_passes : (rows : List Row) (start len : ℕ) (ks : List Kind) → Sound (table rows start len ks) → no_part rows start len ks ≡ None
sound_passes rows start len ks s =
    let xs = take len (drop start rows) in
    let long : length xs ≡ min len (length rows - start) = simp (length-take, length-drop) in
    let each : (i : ℕ) → i < length xs → (is_period (get_or xs i no_row).first (get_or xs i no_row).end ≡ true) × (fits ks (meant (length ks) (get_or xs i no_row)).tuple ≡ true) = λ i lt.
    let here : get_or xs i no_row ≡ get_or rows (start + i) no_row = get_or-take len (drop start rows) i no_row (omega (arith, long)) ∙ get_or-drop start rows i no_row in
    let there = row_in rows start len ks (start + i) no_row (omega arith) (omega (arith, long)) (omega (arith, long)) in
    let good = s.filled (start + i) (meant (length ks) (get_or rows (start + i) no_row)) (sym there) in
    subst (λ w. (is_period w.first w.end ≡ true) × (fits ks (meant (length ks) w).tuple ≡ true)) (sym here) (and_from (ltb _ _) (leb _ _) (lt-ltb _ _ good.period.0) (le-leb _ _ good.period.1), good.fitting) in
    let periods : all_periods xs ≡ true = each_passes (λ w. is_period w.first w.end) xs no_row (λ i lt. (each i lt).0) in
    let fit : all_fit ks xs ≡ true = each_passes (λ w. fits ks (meant (length ks) w).tuple) xs no_row (λ i lt. (each i lt).1) in
    rw (le-leb 1 (length ks) s.some_kinds, le-leb (length ks) most_columns s.few_kinds, periods, fit, le-leb (length rows) most_places s.few) refl

-- the part as it is cut out has passed
pub part_passed : (rows : List Row) (start len a n : ℕ) (ks : List Kind) → a ≡ min start (length rows) → n ≡ min len (length (take (length rows - a) (drop a rows)))
    → no_rows (length rows) (take n (take (length rows - a) (drop a rows))) ks ≡ None → no_part rows start len ks ≡ None
part_passed rows start len a n ks e f h = ap (λ xs. no_rows (length rows) xs ks) (sym (part_is rows start len a n e f)) ∙ h
