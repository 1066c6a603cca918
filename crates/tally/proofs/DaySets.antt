-- The day sets of result rows are the tallied sets.
use Rattle.std.proofs.Common.{◌≡◌, ℕ, ◌+◌, ◌<◌, ◌≤◌, List, [], ◌∷◌, ◌++◌, map, length, get_or, pos, sym, refl, ap, ◌∙◌, subst, ap₂, inl, inr, arith, length-append}
use lib.ListN.{length-map}
use Rattle.std.specs.List.{AllByRecursion as AllOf}
use Rattle.std.proofs.ByRecursion.{All-from_get_or}
use Rattle.std.proofs.lemmas.List.{get_or-map}
use Rattle.relation.specs.declared.rows.Row.{Row}
use Rattle.relation.specs.Bounds.{most_columns}
use Rattle.relation.specs.Lists.{Any, Member}
use Rattle.relation.specs.Operations.{picked}
use Rattle.relation.specs.Sets.{Tuple, TupleSet, Same, column}
use Rattle.relation.specs.Rows.{SpecRow, Day, Holds, on}
use Rattle.relation.specs.Stored.{firsts, meant, stored}
use Rattle.relation.proofs.Firsts.{firsts_cut, firsts_all}
use Rattle.relation.proofs.Held.{In, day_set}
use Rattle.collect.specs.Areas.{no_row, bare, Tidy}
use Rattle.collect.proofs.Indexed.{no_spec, any_to_index, any_from_index, any_from_map}
use Rattle.tallies.specs.declared.rules.Tally.{Tally}
use Rattle.tallies.specs.Tallies.{value, group, tally, held_in, Disjoint}
use Rattle.tallies.proofs.Members.{from_map, to_map}
use Rattle.tallies.proofs.Grouped.{set_tallied}
use Rattle.tallies.proofs.RowsTallied.{held_in_has, rows_tallied}
use Rattle.cuts.specs.Amounts.{amount}
use Rattle.cuts.specs.Groups.{tuple_by}
use Rattle.tally.specs.Results.{Narrow, in_group, Says, Results}
use Rattle.tally.proofs.Measuring.{picked_stored, in_group_stored, amount_stored}

pub any_to_map : {X Y : Type 0} (f : X → Y) (P : Y → Type 0) (xs : List X) → Any (λ x. P (f x)) xs → Any P (map f xs)
any_to_map f P [] a = absurd a
any_to_map f P (x ∷ xs) (inl h) = inl h
any_to_map f P (x ∷ xs) (inr a) = inr (any_to_map f P xs a)

-- a row whose values are those of a tuple of c columns, then zeros
module _ (c : ℕ) (few : c ≤ most_columns) (w : Row) (t : Tuple) (long : length t ≡ c) (is : w.values ≡ firsts most_columns t (pos 0)) where
  pub tuple_stored : firsts c w.values (pos 0) ≡ t
  tuple_stored = ap (λ vs. firsts c vs (pos 0)) is ∙ firsts_cut c most_columns t (pos 0) few ∙ ap (λ k. firsts k t (pos 0)) (sym long) ∙ firsts_all t (pos 0)

  pub tidy_stored : Tidy c w
  tidy_stored = is ∙ ap (λ s. firsts most_columns s (pos 0)) (sym tuple_stored)

module _ (w : Tally) (narrow : Narrow w) (by : List ℕ) (columns : AllOf (λ c. c ≤ most_columns) by) (few : length by < most_columns)
    (xs : List SpecRow) (disjoint : Disjoint xs) (made : List Row) (results : Results w by (map stored xs) made) where
  -- the tuple that the group of t gives on day d
  abbrev given : ℕ → Tuple → Tuple
  given d t = picked by t ++ (value w t (group by (on xs d) t) ∷ [])

  abbrev wide : ℕ
  wide = length by + 1

  given_long : (d : ℕ) (t : Tuple) → length (given d t) ≡ wide
  given_long d t = omega (arith, length-append (picked by t) (value w t (group by (on xs d) t) ∷ []), length-map by (λ c. column c t))

  -- what a result row says of the group of x
  said : (x : SpecRow) (d : ℕ) → Member (on xs d) x.tuple → tuple_by (stored x) by (amount w (in_group by (stored x) d (map stored xs))) ≡ firsts most_columns (given d x.tuple) (pos 0)
  said x d m =
      let t = x.tuple in
      ap₂ (λ ps a. firsts most_columns (ps ++ (a ∷ [])) (pos 0)) (picked_stored by t columns)
      (ap (amount w) (in_group_stored by columns x d xs) ∙ amount_stored w narrow t (held_in by t d xs) (held_in_has by t d xs m) ∙ sym (rows_tallied w by xs d t disjoint m))

  row_at : (i : ℕ) → i < length xs → get_or (map stored xs) i no_row ≡ stored (get_or xs i no_spec)
  row_at i lt = get_or-map stored xs i no_spec no_row lt

  member_at : (i d : ℕ) → i < length xs → Holds (get_or xs i no_spec) d → Member (on xs d) (get_or xs i no_spec).tuple
  member_at i d lt h = (day_set xs d (get_or xs i no_spec).tuple).1 (any_from_index (λ r. (r.tuple ≡ (get_or xs i no_spec).tuple) × Holds r d) xs no_spec i lt (refl, h))

  -- the values of a row that says what the group of row i comes to
  values_said : (i d : ℕ) (u : Row) → i < length xs → Holds (get_or xs i no_spec) d → Says w by (map stored xs) d (get_or (map stored xs) i no_row) u → u.values ≡ firsts most_columns (given d (get_or xs i no_spec).tuple) (pos 0)
  values_said i d u lt h s =
      s.1
      ∙ ap (λ g. tuple_by g by (amount w (in_group by g d (map stored xs)))) (row_at i lt)
      ∙ said (get_or xs i no_spec) d (member_at i d lt h)

  -- a row of the tallied rows that a result row speaks of
  pub source_of : (k d : ℕ) → k < length made → Holds (bare (get_or made k no_row)) d → (i : ℕ) × ((i < length xs) × (Holds (get_or xs i no_spec) d × ((get_or made k no_row).values ≡ firsts most_columns (given d (get_or xs i no_spec).tuple) (pos 0))))
  source_of k d lt h =
      let s = results.sound k d lt h in
      let l : s.0 < length xs = omega (arith, s.1.0, length-map xs stored) in
      let held : Holds (get_or xs s.0 no_spec) d = subst (λ g. Holds (bare g) d) (row_at s.0 l) s.1.1.0 in
      (s.0, (l, (held, values_said s.0 d (get_or made k no_row) l held s.1.1.1)))

  -- each result row is of the width of a result
  pub made_tidy : AllOf (Tidy wide) made
  made_tidy = All-from_get_or (Tidy wide) made no_row (λ k lt.
      let p = results.periods k lt in
      let first = (get_or made k no_row).first in
      let s = source_of k first lt (omega arith, p.0) in
      tidy_stored wide (omega arith) (get_or made k no_row) (given first (get_or xs s.0 no_spec).tuple) (given_long first (get_or xs s.0 no_spec).tuple) s.1.1.1)

  there : (d : ℕ) (u : Tuple) → In (map (meant wide) made) d u → Member (tally w by (on xs d)) u
  there d u a =
      let r = any_to_index (λ v. ((meant wide v).tuple ≡ u) × Holds (meant wide v) d) made no_row (any_from_map (meant wide) (λ v. (v.tuple ≡ u) × Holds v d) made a) in
      let s = source_of r.0 d r.1.0 r.1.1.1 in
      let t = (get_or xs s.0 no_spec).tuple in
      to_map (given d) (on xs d) t u (member_at s.0 d s.1.0 s.1.1.0)
      (sym (tuple_stored wide (omega arith) (get_or made r.0 no_row) (given d t) (given_long d t) s.1.1.1) ∙ r.1.1.0)

  back : (d : ℕ) (u : Tuple) → Member (tally w by (on xs d)) u → In (map (meant wide) made) d u
  back d u m =
      let f = from_map (given d) (on xs d) u m in
      let r = any_to_index (λ x. (x.tuple ≡ f.0) × Holds x d) xs no_spec ((day_set xs d f.0).0 f.1.0) in
      let i = r.0 in
      let s = results.whole i d (omega (arith, r.1.0, length-map xs stored)) (subst (λ g. Holds (bare g) d) (sym (row_at i r.1.0)) r.1.1.1) in
      let v = get_or made s.0 no_row in
      let is = values_said i d v r.1.0 r.1.1.1 s.1.1 in
      let t = (get_or xs i no_spec).tuple in
      any_to_map (meant wide) (λ x. (x.tuple ≡ u) × Holds x d) made
      (any_from_index (λ x. ((meant wide x).tuple ≡ u) × Holds (meant wide x) d) made no_row s.0 s.1.0
      (tuple_stored wide (omega arith) v (given d t) (given_long d t) is ∙ ap (given d) r.1.1.0 ∙ f.1.1, s.1.1.0))

  -- so the sets are the tallied sets, of these rows and of any sets that they have
  pub same_sets : (f : ℕ → TupleSet) → ((d : ℕ) → Day d → Same (on xs d) (f d)) → (d : ℕ) → Day d → Same (on (map (meant wide) made) d) (tally w by (f d))
  same_sets f same d day u =
      let s = set_tallied w by (on xs d) (f d) (same d day) u in (
        (λ m. s.0 (there d u ((day_set (map (meant wide) made) d u).0 m))),
        λ m. (day_set (map (meant wide) made) d u).1 (back d u (s.1 m)),
      )
