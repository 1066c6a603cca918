-- The tallied tuples keep to the kinds of the result.
use Rattle.std.specs.List.{list_all}
use Rattle.std.proofs.Common.{◌≡◌, ℕ, zero, suc, ◌+◌, ◌-◌, ◌<◌, ◌≤◌, Bool, true, false, cond, ◌&&◌, ◌⊎◌, List, [], ◌∷◌, ◌++◌, map, length, get_or, ℤ, pos, is_some, filter, sym, refl, ◌∙◌, subst, inl, inr, arith}
use Rattle.std.proofs.lemmas.Int.{ints}
use Rattle.std.proofs.lemmas.Bool.{and_parts, and_from, cases_Bool, false≢true}
use Rattle.relation.specs.declared.kinds.Kind.{Kind}
use Rattle.relation.specs.declared.kinds.Kind.TheVariants as kind
use Rattle.relation.specs.Bounds.{most_work}
use Rattle.relation.specs.Lists.{Member}
use Rattle.relation.specs.Operations.{picked}
use Rattle.relation.specs.Sets.{Tuple, TupleSet, column, equal, has}
use Rattle.relation.specs.Rows.{SpecRow, Day, holds, on}
use Rattle.relation.specs.Values.{in_kind, Number}
use Rattle.relation.proofs.KindsTold.{kinds_told}
use Rattle.source.specs.Meaning.{Meaning, Sound, cell, kind_of, fits, rows_of, day_set}
use Rattle.source.proofs.Places.{day_set_of_places}
use Rattle.tallies.specs.declared.rules.Tally.{Tally}
use Rattle.tallies.specs.declared.rules.Tally.TheVariants.{Count, Sum, Min, Max}
use Rattle.tallies.specs.Tallies.{once, value, group}
use Rattle.tallies.proofs.Grouped.{groups, value_is}
use Rattle.tallies.proofs.Members.{from_map}
use Rattle.tally.specs.Tallying.{measurable, Outside}
use Rattle.tally.specs.Kinds.{kind_at, value_kind, tallied_kinds, TalliedFit}
use Rattle.tally.proofs.Collected.{cell_within}

-- ---- columns

fits_push : (ks : List Kind) (zs : Tuple) (k : Kind) (z : ℤ) → fits ks zs ≡ true → in_kind k z ≡ true → fits (ks ++ (k ∷ [])) (zs ++ (z ∷ [])) ≡ true
fits_push [] [] k z f h = and_from (in_kind k z) true h refl
fits_push [] (y ∷ zs) k z f h = absurd (false≢true f)
fits_push (j ∷ ks) [] k z f h = absurd (false≢true f)
fits_push (j ∷ ks) (y ∷ zs) k z f h = let p = and_parts (in_kind j y) (fits ks zs) f in and_from (in_kind j y) _ p.0 (fits_push ks zs k z p.1 h)

in_kind_nth : (ks : List Kind) (t : Tuple) (i : ℕ) → fits ks t ≡ true → i < length ks → in_kind (get_or ks i kind.Number) (get_or t i (pos 0)) ≡ true
in_kind_nth [] t i f h = absurd (omega arith)
in_kind_nth (k ∷ ks) [] i f h = absurd (false≢true f)
in_kind_nth (k ∷ ks) (z ∷ zs) zero f h = (and_parts (in_kind k z) (fits ks zs) f).0
in_kind_nth (k ∷ ks) (z ∷ zs) (suc i) f h = in_kind_nth ks zs i (and_parts (in_kind k z) (fits ks zs) f).1 (omega arith)

no_zeroth : {X : Type 0} (xs : List X) (c : ℕ) → is_some (cell xs c) ≡ true → 1 ≤ c
no_zeroth xs zero h = absurd (false≢true h)
no_zeroth xs (suc c) h = omega arith

-- ---- counts

kept_few : {X : Type 0} (p : X → Bool) (xs : List X) → length (filter p xs) ≤ length xs
kept_few p [] = omega arith
kept_few p (x ∷ xs) = step (p x) (kept_few p xs)
  where
    step : (b : Bool) → length (filter p xs) ≤ length xs → length (cond b (x ∷ filter p xs) (filter p xs)) ≤ suc (length xs)
    step true h = omega arith
    step false h = omega arith

once_few : (S : TupleSet) → length (once S) ≤ length S
once_few [] = omega arith
once_few (s ∷ S) = step (has S s) (once_few S)
  where
    step : (b : Bool) → length (once S) ≤ length S → length (cond b (once S) (s ∷ once S)) ≤ suc (length S)
    step true h = omega arith
    step false h = omega arith

on_few : (rows : List SpecRow) (d : ℕ) → length (on rows d) ≤ length rows
on_few [] d = omega arith
on_few (r ∷ rows) d = step (holds r d) (on_few rows d)
  where
    step : (b : Bool) → length (on rows d) ≤ length rows → length (cond b (r.tuple ∷ on rows d) (on rows d)) ≤ suc (length rows)
    step true h = omega arith
    step false h = omega arith

small_number : (n : ℕ) → n ≤ 1 + most_work → Number (pos n)
small_number n h = (omega (arith, ints), omega (arith, ints))

-- ---- the tuples of a day

module _ (m : Meaning) (sound : Sound m) (d : ℕ) (day : Day d) where
  fits_day : (t : Tuple) → Member (day_set m d) t → fits m.kinds t ≡ true
  fits_day t i =
      let o = (day_set_of_places m sound d t).0 i in
      subst (λ s. fits m.kinds s ≡ true) o.same (sound.filled o.place o.row o.there).fitting

  column_in_kind : (t : Tuple) (c : ℕ) → fits m.kinds t ≡ true → is_some (kind_of m c) ≡ true → in_kind (kind_at m c) (column c t) ≡ true
  column_in_kind t c f h =
      let low = no_zeroth m.kinds c h in
      let high = cell_within m.kinds c h in
      in_kind_nth m.kinds t (c - 1) f (omega arith)

  picked_fit : (by : List ℕ) (t : Tuple) → fits m.kinds t ≡ true → list_all (λ c. is_some (kind_of m c)) by ≡ true → fits (map (kind_at m) by) (picked by t) ≡ true
  picked_fit [] t f h = refl
  picked_fit (c ∷ by) t f h =
      let p = and_parts (is_some (kind_of m c)) (list_all (λ c. is_some (kind_of m c)) by) h in
      and_from (in_kind (kind_at m c) (column c t)) _ (column_in_kind t c f p.0) (picked_fit by t f p.1)

  module _ (by : List ℕ) (t : Tuple) (i : Member (day_set m d) t) where
    abbrev G : TupleSet
    G = group by (day_set m d) t

    -- a tuple of the group, or t itself, is one of the day
    of_day : (u : Tuple) → Member (t ∷ G) u → Member (day_set m d) u
    of_day u (inl e) = subst (Member (day_set m d)) e i
    of_day u (inr g) = ((groups by (day_set m d) t u).0 g).0

    few_tuples : length (rows_of m) ≤ most_work → length (once (t ∷ G)) ≤ 1 + most_work
    few_tuples few =
        omega (arith, once_few (t ∷ G), kept_few (λ u. equal (picked by u) (picked by t)) (day_set m d), on_few (rows_of m) d)

    value_fits : (w : Tally) → measurable m w ≡ true → length (rows_of m) ≤ most_work → (Outside w by (day_set m) → ⊥) → in_kind (value_kind m w) (value w t G) ≡ true
    value_fits Count h few inside = (kinds_told kind.Number (value Count t G)).1 (small_number (length (once (t ∷ G))) (few_tuples few))
    value_fits (Sum c) h few inside = step (cases_Bool (in_kind kind.Number (value (Sum c) t G)))
      where
        step : (in_kind kind.Number (value (Sum c) t G) ≡ true) ⊎ (in_kind kind.Number (value (Sum c) t G) ≡ false) → in_kind kind.Number (value (Sum c) t G) ≡ true
        step (inl e) = e
        step (inr e) = absurd (inside (d, (day, (t, (i, λ n. false≢true (sym e ∙ (kinds_told kind.Number (value (Sum c) t G)).1 n))))))
    value_fits (Min c) h few inside =
        let v = (value_is (Min c) t G).0 in
        subst (λ z. in_kind (kind_at m c) z ≡ true) v.1.1 (column_in_kind v.0 c (fits_day v.0 (of_day v.0 v.1.0)) h)
    value_fits (Max c) h few inside =
        let v = (value_is (Max c) t G).0 in
        subst (λ z. in_kind (kind_at m c) z ≡ true) v.1.1 (column_in_kind v.0 c (fits_day v.0 (of_day v.0 v.1.0)) h)

pub tallied_fit : TalliedFit
tallied_fit m w by sound fit few inside d day u i =
    let later = (and_parts _ (list_all (λ c. is_some (kind_of m c)) by && measurable m w) fit).1 in
    let parts = and_parts (list_all (λ c. is_some (kind_of m c)) by) (measurable m w) later in
    let g = from_map (λ t. picked by t ++ (value w t (group by (day_set m d) t) ∷ [])) (day_set m d) u i in
    let t = g.0 in
    subst (λ s. fits (tallied_kinds m w by) s ≡ true) g.1.1
    (fits_push (map (kind_at m) by) (picked by t) (value_kind m w) (value w t (group by (day_set m d) t))
    (picked_fit m sound d day by t (fits_day m sound d day t g.1.0) parts.0)
    (value_fits m sound d day by t g.1.0 w parts.1 few inside))
