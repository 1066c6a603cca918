-- What a tally leaves depends only on the sets.
use Rattle.std.proofs.Common.{◌≡◌, ℕ, ◌⊎◌, List, ◌∷◌, Ok, Err, Option, Result, sym, subst, inl, inr}
use Rattle.relation.specs.declared.refusals.Reason.{Reason}
use Rattle.relation.specs.declared.refusals.Refusal.{Refusal}
use Rattle.relation.specs.declared.rows.Row.{Row}
use Rattle.relation.specs.Rows.{SpecRow, Lists}
use Rattle.relation.specs.Sets.{Tuple, TupleSet, Same}
use Rattle.relation.specs.Values.{Number}
use Rattle.tree.specs.declared.Node.{Node}
use Rattle.collect.specs.Collects.{LeavesList}
use Rattle.tallies.specs.declared.rules.Tally.{Tally}
use Rattle.tallies.specs.declared.rules.Tally.TheVariants.{Count, Sum, Min, Max}
use Rattle.tallies.specs.Tallies.{tally, value, group}
use Rattle.tallies.proofs.Grouped.{one_value, valued, value_is, groups, set_tallied}
use Rattle.tally.specs.Tallying.{Outside, Tallies}

-- ---- lists of the same sets

pub lists_over : (l : List SpecRow) (f g : ℕ → TupleSet) → ((d : ℕ) → Same (f d) (g d)) → Lists l f → Lists l g
lists_over l f g same h = record { canonical = h.canonical; sets = λ d day t. (λ m. (same d t).0 ((h.sets d day t).0 m), λ m. (h.sets d day t).1 ((same d t).1 m)) }

pub leaves_over : (f g : ℕ → TupleSet) (rows : List Row) (index : List Node) (n : ℕ) (rows' : List Row) (index' : List Node) → ((d : ℕ) → Same (f d) (g d)) → LeavesList f rows index n rows' index' → LeavesList g rows index n rows' index'
leaves_over f g rows index n rows' index' same h =
    let p = h.part in
    record {
      part = record { list = p.list; lists = lists_over p.list f g same p.lists; count = p.count; rows_are = p.rows_are; index_are = p.index_are };
      rows_rest = h.rows_rest;
      index_rest = h.index_rest;
    }

-- ---- groups of the same sets

module _ (by : List ℕ) (S U : TupleSet) (same : Same S U) (t : Tuple) where
  same_group : Same (group by S t) (group by U t)
  same_group u = (
    (λ m. let x = (groups by S t u).0 m in (groups by U t u).1 ((same u).0 x.0, x.1)),
    λ m. let x = (groups by U t u).0 m in (groups by S t u).1 ((same u).1 x.0, x.1),
  )

  with_tuple : Same (t ∷ group by S t) (t ∷ group by U t)
  with_tuple u = (step (same_group u).0, step (same_group u).1)
    where
      step : {G H : Type 0} → (G → H) → (t ≡ u) ⊎ G → (t ≡ u) ⊎ H
      step f (inl e) = inl e
      step f (inr m) = inr (f m)

  same_value : (w : Tally) → value w t (group by S t) ≡ value w t (group by U t)
  same_value w = one_value w (t ∷ group by U t) (value w t (group by S t)) (value w t (group by U t)) (valued w (t ∷ group by S t) (t ∷ group by U t) with_tuple (value w t (group by S t)) (value_is w t (group by S t))) (value_is w t (group by U t))

-- ---- tallies of the same sets

module _ (by : List ℕ) (f g : ℕ → TupleSet) (same : (d : ℕ) → Same (f d) (g d)) where
  outside_over : (w : Tally) → Outside w by f → Outside w by g
  outside_over Count h = h
  outside_over (Sum c) h =
      let d = h.0 in
      let t = h.1.1.0 in
      (d, (h.1.0, (t, ((same d t).0 h.1.1.1.0, λ n. h.1.1.1.1 (subst Number (sym (same_value by (f d) (g d) (same d) t (Sum c))) n)))))
  outside_over (Min c) h = h
  outside_over (Max c) h = h

pub tallies_over : (q : Option Reason) (w : Tally) (by : List ℕ) (f g : ℕ → TupleSet) → ((d : ℕ) → Same (f d) (g d))
    → (rows : List Row) (index : List Node) (r : Result ℕ Refusal) (rows' : List Row) (index' : List Node)
    → Tallies q w by f rows index r rows' index' → Tallies q w by g rows index r rows' index'
tallies_over q w by f g same rows index (Ok n) rows' index' h = (
  h.0,
  λ o. h.1 (outside_over by g f (λ d t. ((same d t).1, (same d t).0)) w o),
  leaves_over (λ d. tally w by (f d)) (λ d. tally w by (g d)) rows index n rows' index' (λ d. set_tallied w by (f d) (g d) (same d)) h.2,
)
tallies_over q w by f g same rows index (Err e) rows' index' (inl h) = inl h
tallies_over q w by f g same rows index (Err e) rows' index' (inr h) = inr (h.0, outside_over by f g same w h.1, h.2, h.3)
