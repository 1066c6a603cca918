-- What is known of a source's collected list: it is not longer than the source, and its rows keep to the source's kinds.
use Rattle.std.proofs.Common.{◌≡◌, ℕ, zero, suc, ◌-◌, ◌<◌, ◌≤◌, Bool, true, ◌&&◌, ltb, List, [], ◌∷◌, map, length, get_or, take, pos, is_some, Some, None, Option, sym, refl, ap, ◌∙◌, subst, arith}
use lib.ListN.{length-map}
use Rattle.std.specs.List.{slice_get, list_all, AllByRecursion as AllOf}
use Rattle.std.proofs.ByRecursion.{All-append, All-get_or, All-from_get_or}
use Rattle.std.proofs.lemmas.List.{take_at, take-take}
use Rattle.std.proofs.lemmas.Bool.{and_parts, false≢true}
use Rattle.relation.specs.declared.kinds.Kind.{Kind}
use Rattle.relation.specs.declared.kinds.Kind.TheVariants.{Number, Word}
use Rattle.relation.specs.declared.rows.Row.{Row}
use Rattle.relation.specs.Bounds.{most_columns}
use Rattle.relation.specs.Sets.{Tuple, TupleSet, column}
use Rattle.relation.specs.Rows.{SpecRow, Period, Holds, Lists}
use Rattle.relation.specs.Stored.{stored}
use Rattle.relation.specs.Values as values
use Rattle.relation.specs.Values.{in_kind}
use Rattle.relation.proofs.Every.{every_at}
use Rattle.relation.proofs.Fewest.{fewest}
use Rattle.relation.proofs.Held as held
use Rattle.relation.proofs.KindsTold.{kinds_told}
use Rattle.source.specs.Meaning.{Meaning, Sound, cell, kind_of, fits, filled?, rows_below, rows_of, day_set}
use Rattle.source.proofs.Places.{day_set_of_places}
use Rattle.tree.specs.declared.Node.{Node}
use Rattle.collect.specs.Collects.{counted, LeavesList}
use Rattle.collect.proofs.Indexed.{no_spec, any_from_index}
use Rattle.tallies.specs.declared.rules.Tally.{Tally}
use Rattle.tallies.specs.declared.rules.Tally.TheVariants.{Count, Sum, Min, Max}
use Rattle.cuts.specs.Amounts.{Within}
use Rattle.tally.specs.Results.{Narrow}
use Rattle.tally.specs.Tallying.{is_number, measurable, fitting}
use Rattle.tally.proofs.Measuring.{column_stored}

-- ---- columns that are there

nth_within : {X : Type 0} (xs : List X) (i : ℕ) → is_some (slice_get xs i) ≡ true → i < length xs
nth_within [] i h = absurd (false≢true h)
nth_within (x ∷ xs) zero h = omega arith
nth_within (x ∷ xs) (suc i) h = let l = nth_within xs i h in omega arith

pub cell_within : {X : Type 0} (xs : List X) (c : ℕ) → is_some (cell xs c) ≡ true → c ≤ length xs
cell_within xs zero h = omega arith
cell_within xs (suc c) h = let l = nth_within xs c h in omega arith

pub number_there : (o : Option Kind) → is_number o ≡ true → is_some o ≡ true
number_there None h = h
number_there (Some k) h = refl

-- the value of a column of kind n is a number
number_nth : (ks : List Kind) (t : Tuple) (i : ℕ) → fits ks t ≡ true → is_number (slice_get ks i) ≡ true → in_kind Number (get_or t i (pos 0)) ≡ true
number_nth [] t i f h = absurd (false≢true h)
number_nth (k ∷ ks) [] i f h = absurd (false≢true f)
number_nth (Number ∷ ks) (z ∷ zs) zero f h = (and_parts (in_kind Number z) (fits ks zs) f).0
number_nth (Word ∷ ks) (z ∷ zs) zero f h = absurd (false≢true h)
number_nth (k ∷ ks) (z ∷ zs) (suc i) f h = number_nth ks zs i (and_parts (in_kind k z) (fits ks zs) f).1 h

number_cell : (ks : List Kind) (t : Tuple) (c : ℕ) → fits ks t ≡ true → is_number (cell ks c) ≡ true → in_kind Number (column c t) ≡ true
number_cell ks t zero f h = absurd (false≢true h)
number_cell ks t (suc c) f h = let at : c ≡ suc c - 1 = omega arith in subst (λ i. in_kind Number (get_or t i (pos 0)) ≡ true) at (number_nth ks t c f h)

-- ---- a tally that fits the source

module _ (m : Meaning) (sound : Sound m) (w : Tally) (by : List ℕ) (fit : fitting m w by ≡ true) where
  abbrev there : ℕ → Bool
  there c = is_some (kind_of m c)

  later : (list_all there by && measurable m w) ≡ true
  later = (and_parts (ltb (length by) most_columns) (list_all there by && measurable m w) fit).1

  in_row : (c : ℕ) → is_some (kind_of m c) ≡ true → c ≤ most_columns
  in_row c h = let l = cell_within m.kinds c h in omega (arith, sound.few_kinds)

  pub columns : AllOf (λ c. c ≤ most_columns) by
  columns = All-from_get_or (λ c. c ≤ most_columns) by 0 (λ i lt. in_row (get_or by i 0) (every_at there by 0 i (and_parts (list_all there by) (measurable m w) later).0 lt))

  is_measurable : measurable m w ≡ true
  is_measurable = (and_parts (list_all there by) (measurable m w) later).1

  narrow_if : (v : Tally) → measurable m v ≡ true → Narrow v
  narrow_if Count h = tt
  narrow_if (Sum c) h = in_row c (number_there (kind_of m c) h)
  narrow_if (Min c) h = in_row c h
  narrow_if (Max c) h = in_row c h

  pub narrow : Narrow w
  narrow = narrow_if w is_measurable

  within_if : (v : Tally) → measurable m v ≡ true → (x : SpecRow) → fits m.kinds x.tuple ≡ true → Within v (stored x)
  within_if Count h x f = tt
  within_if (Sum c) h x f =
      let few = in_row c (number_there (kind_of m c) h) in
      subst values.Number (sym (column_stored c x.tuple few)) ((kinds_told Number (column c x.tuple)).0 (number_cell m.kinds x.tuple c f h))
  within_if (Min c) h x f = tt
  within_if (Max c) h x f = tt

  pub within : (x : SpecRow) → fits m.kinds x.tuple ≡ true → Within w (stored x)
  within x f = within_if w is_measurable x f

-- ---- the list

all_rows : (P : SpecRow → Type 0) (m : Meaning) → ((k : ℕ) (r : SpecRow) → m.at k ≡ Some r → P r) → (n : ℕ) → AllOf P (rows_below m n)
all_rows P m each zero = tt
all_rows P m each (suc n) = All-append P (rows_below m n) (filled? (m.at n)) (all_rows P m each n) (one (m.at n) refl)
  where
    one : (o : Option SpecRow) → m.at n ≡ o → AllOf P (filled? o)
    one None e = tt
    one (Some r) e = (each n r e, tt)

module _ (m : Meaning) (sound : Sound m) (xs : List SpecRow) (lists : Lists xs (day_set m)) where
  pub few_listed : length xs ≤ length (rows_of m)
  few_listed = fewest xs (rows_of m) lists.canonical (all_rows Period m (λ k r e. (sound.filled k r e).period) m.count) lists.sets

  pub period_listed : (i : ℕ) → i < length xs → Period (get_or xs i no_spec)
  period_listed i lt = All-get_or Period xs i no_spec lt lists.canonical.periods

  pub fits_listed : (i : ℕ) → i < length xs → fits m.kinds (get_or xs i no_spec).tuple ≡ true
  fits_listed i lt =
      let r = get_or xs i no_spec in
      let p = period_listed i lt in
      let here : Holds r r.first = (omega arith, p.0) in
      let there = (held.day_set xs r.first r.tuple).1 (any_from_index (λ s. (s.tuple ≡ r.tuple) × Holds s r.first) xs no_spec i lt (refl, here)) in
      let o = (day_set_of_places m sound r.first r.tuple).0 ((lists.sets r.first (omega arith) r.tuple).0 there) in
      subst (λ t. fits m.kinds t ≡ true) o.same (sound.filled o.place o.row o.there).fitting

-- the list as it stands in the area
module _ (f : ℕ → TupleSet) (rows after : List Row) (index last : List Node) (n : ℕ) (left : LeavesList f rows index n after last) (few : n ≤ counted rows) where
  pub left_front : take n after ≡ map stored left.part.list
  left_front =
      let h = left.part in
      sym (take-take n (counted rows) after few) ∙ ap (take n) h.rows_are ∙ take_at (map stored h.list) _ n (length-map h.list stored ∙ sym h.count)
