-- The sums of the result rows lie outside kind n exactly where those of some day do.
use Rattle.std.specs.List.{list_all}
use Rattle.std.proofs.Common.{◌≡◌, ℕ, suc, ◌+◌, ◌<◌, Bool, true, false, ◌&&◌, List, [], ◌∷◌, ◌++◌, map, length, get_or, ℤ, pos, sym, refl, ap, ◌∙◌, arith}
use lib.ListN.{length-map}
use Rattle.std.proofs.lemmas.List.{get_or_push}
use Rattle.std.proofs.lemmas.Bool.{false≢true, true≢false}
use Rattle.relation.specs.declared.kinds.Kind.TheVariants as kind
use Rattle.relation.specs.declared.rows.Row.{Row}
use Rattle.relation.specs.Operations.{picked}
use Rattle.relation.specs.Sets.{Tuple, TupleSet, Same, column}
use Rattle.relation.specs.Rows.{Day, Period, Holds, on}
use Rattle.relation.specs.Stored.{firsts, meant}
use Rattle.relation.specs.Values.{in_kind}
use Rattle.relation.proofs.Every.{every_at}
use Rattle.relation.proofs.Held.{In, day_set}
use Rattle.relation.proofs.KindsTold.{kinds_told}
use Rattle.collect.specs.Areas.{no_row, bare}
use Rattle.collect.proofs.Indexed.{any_to_index, any_from_index, any_from_map}
use Rattle.tallies.specs.declared.rules.Tally.{Tally}
use Rattle.tallies.specs.declared.rules.Tally.TheVariants.{Count, Sum, Min, Max}
use Rattle.tallies.specs.Tallies as tallies
use Rattle.tallies.specs.Tallies.{group, tally, Exceeds}
use Rattle.tallies.proofs.Members.{from_map, to_map}
use Rattle.cuts.specs.Amounts.{value}
use Rattle.tally.specs.Results.{sums_fit}
use Rattle.tally.specs.Tallying.{Outside}
use Rattle.tally.proofs.Measuring.{get_d_firsts}
use Rattle.tally.proofs.DaySets.{any_to_map}

-- some element fails the test
not_every : {X : Type 0} (p : X → Bool) (xs : List X) (d : X) → list_all p xs ≡ false → (k : ℕ) × ((k < length xs) × (p (get_or xs k d) ≡ false))
not_every p [] d h = absurd (true≢false h)
not_every p (x ∷ xs) d h = step (p x) refl h (not_every p xs d)
  where
    step : (b : Bool) → p x ≡ b → (b && list_all p xs) ≡ false → (list_all p xs ≡ false → (k : ℕ) × ((k < length xs) × (p (get_or xs k d) ≡ false))) → (k : ℕ) × ((k < suc (length xs)) × (p (get_or (x ∷ xs) k d) ≡ false))
    step true e f more = let s = more f in (suc s.0, (omega (arith, s.1.0), s.1.1))
    step false e f more = (0, (omega arith, e))

module _ (by : List ℕ) (f : ℕ → TupleSet) (made : List Row) (periods : (k : ℕ) → k < length made → Period (bare (get_or made k no_row))) where
  abbrev wide : ℕ
  wide = length by + 1

  -- the last value of a result
  last_is : (u : Row) (t : Tuple) (z : ℤ) → firsts wide u.values (pos 0) ≡ picked by t ++ (z ∷ []) → value (length by) u ≡ z
  last_is u t z e =
      sym (get_d_firsts wide u.values (pos 0) (length by) (omega arith))
      ∙ ap (λ s. get_or s (length by) (pos 0)) e
      ∙ get_or_push (picked by t) z (pos 0) (length by) (length-map by (λ c. column c t))

  module _ (c : ℕ) (same : (d : ℕ) → Day d → Same (on (map (meant wide) made) d) (tally (Sum c) by (f d))) where
    abbrev sum : ℕ → Tuple → ℤ
    sum d t = tallies.value (Sum c) t (group by (f d) t)

    exceeding : list_all (λ w. in_kind kind.Number (value (length by) w)) made ≡ false → Exceeds c by f
    exceeding h =
        let s = not_every (λ w. in_kind kind.Number (value (length by) w)) made no_row h in
        let k = s.0 in
        let u = get_or made k no_row in
        let p = periods k s.1.0 in
        let d = u.first in
        let day : Day d = omega (arith, p.0, p.1) in
        let t = firsts wide u.values (pos 0) in
        let m = (same d day t).0 ((day_set (map (meant wide) made) d t).1 (found k s.1.0 d (omega arith, p.0))) in
        let g = from_map (λ t. picked by t ++ (sum d t ∷ [])) (f d) t m in
        let is : value (length by) u ≡ sum d g.0 = last_is u g.0 (sum d g.0) (sym g.1.1) in
        (d, (day, (g.0, (g.1.0, λ n. false≢true (sym s.1.1 ∙ ap (in_kind kind.Number) is ∙ (kinds_told kind.Number (sum d g.0)).1 n)))))
      where
        found : (k : ℕ) → k < length made → (d : ℕ) → Holds (bare (get_or made k no_row)) d → In (map (meant wide) made) d (firsts wide (get_or made k no_row).values (pos 0))
        found k lt d h = any_to_map (meant wide) (λ x. (x.tuple ≡ firsts wide (get_or made k no_row).values (pos 0)) × Holds x d) made
            (any_from_index (λ x. ((meant wide x).tuple ≡ firsts wide (get_or made k no_row).values (pos 0)) × Holds (meant wide x) d) made no_row k lt (refl, h))

    not_exceeding : list_all (λ w. in_kind kind.Number (value (length by) w)) made ≡ true → Exceeds c by f → ⊥
    not_exceeding h e =
        let d = e.0 in
        let t = e.1.1.0 in
        let u = picked by t ++ (sum d t ∷ []) in
        let m = (same d e.1.0 u).1 (to_map (λ t. picked by t ++ (sum d t ∷ [])) (f d) t u e.1.1.1.0 refl) in
        let r = any_to_index (λ v. ((meant wide v).tuple ≡ u) × Holds (meant wide v) d) made no_row (any_from_map (meant wide) (λ v. (v.tuple ≡ u) × Holds v d) made ((day_set (map (meant wide) made) d u).0 m)) in
        let is = last_is (get_or made r.0 no_row) t (sum d t) r.1.1.0 in
        e.1.1.1.1 ((kinds_told kind.Number (sum d t)).0 (ap (in_kind kind.Number) (sym is) ∙ every_at (λ w. in_kind kind.Number (value (length by) w)) made no_row r.0 h r.1.0))

  pub outside : (w : Tally) → ((d : ℕ) → Day d → Same (on (map (meant wide) made) d) (tally w by (f d))) → sums_fit w (length by) made ≡ false → Outside w by f
  outside Count same h = absurd (true≢false h)
  outside (Sum c) same h = exceeding c same h
  outside (Min c) same h = absurd (true≢false h)
  outside (Max c) same h = absurd (true≢false h)

  pub not_outside : (w : Tally) → ((d : ℕ) → Day d → Same (on (map (meant wide) made) d) (tally w by (f d))) → sums_fit w (length by) made ≡ true → Outside w by f → ⊥
  not_outside Count same h o = o
  not_outside (Sum c) same h o = not_exceeding c same h o
  not_outside (Min c) same h o = o
  not_outside (Max c) same h o = o
