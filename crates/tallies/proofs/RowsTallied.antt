-- A group's value over the rows that hold the day.
use Rattle.std.proofs.Common.{◌≡◌, ℕ, Bool, true, false, cond, ◌&&◌, List, [], ◌∷◌, map, length, ℤ, pos, ◌+ℤ◌, filter, sym, refl, ap, ◌∙◌, subst, inl, inr, arith}
use Rattle.std.specs.Int.{int_min, int_max}
use Rattle.std.proofs.ByRecursion.{All-weaker, all_kept_by}
use Rattle.std.proofs.lemmas.List.{length-map}
use Rattle.std.proofs.lemmas.Int.{ints, clamps}
use Rattle.std.proofs.lemmas.Bool.{cond-true, cond-false}
use Rattle.tallies.specs.declared.rules.Tally.{Tally}
use Rattle.tallies.specs.declared.rules.Tally.TheVariants.{Count, Sum, Min, Max}
use Rattle.relation.specs.Lists.{Member, Distinct}
use Rattle.relation.specs.Sets.{Tuple, TupleSet, column, equal, has}
use Rattle.relation.specs.Rows.{SpecRow, Holds, Coalesced, holds, on}
use Rattle.relation.specs.Operations.{picked}
use Rattle.tallies.specs.Tallies.{once, total, best, value, group, Disjoint, held_in, row_total, row_best, amount}
use Rattle.tallies.specs.TallyTheorems as theorems
use Rattle.relation.proofs.Held.{holds_decides, day_set}
use Rattle.relation.proofs.Pigeons.{never}
use Rattle.relation.proofs.TupleSets.{has_decides}
use Rattle.tallies.proofs.Grouped.{groups}
use Rattle.tallies.proofs.Members.{not_in}

pub disjoint_from_coalesced : (rows : List SpecRow) → Coalesced rows → Disjoint rows
disjoint_from_coalesced [] c = tt
disjoint_from_coalesced (r ∷ rows) c = (All-weaker _ _ (λ s n e h. n e (inl h)) rows c.0, disjoint_from_coalesced rows c.1)

-- ---- the group is that of the rows that hold the day

abbrev pub tuples : List SpecRow → TupleSet
tuples rows = map (λ r. r.tuple) rows

pub group_rows : (by : List ℕ) (t : Tuple) (d : ℕ) (rows : List SpecRow) → group by (on rows d) t ≡ tuples (held_in by t d rows)
group_rows by t d [] = refl
group_rows by t d (r ∷ rows) = step (holds r d) (equal (picked by r.tuple) (picked by t)) refl (group_rows by t d rows)
  where
    step : (b g : Bool) → equal (picked by r.tuple) (picked by t) ≡ g → group by (on rows d) t ≡ tuples (held_in by t d rows) → group by (cond b (r.tuple ∷ on rows d) (on rows d)) t ≡ tuples (cond (b && g) (r ∷ held_in by t d rows) (held_in by t d rows))
    step true true e h = cond-true _ _ _ e ∙ ap (λ (S : TupleSet). r.tuple ∷ S) h
    step true false e h = cond-false _ _ _ e ∙ h
    step false g e h = h

-- t's own row is among them
pub held_in_has : (by : List ℕ) (t : Tuple) (d : ℕ) (rows : List SpecRow) → Member (on rows d) t → Member (tuples (held_in by t d rows)) t
held_in_has by t d rows m = subst (λ S. Member S t) (group_rows by t d rows) ((groups by (on rows d) t t).1 (m, refl))

-- ---- each tuple of the day stands in one row that holds it

pub distinct_on : (rows : List SpecRow) (d : ℕ) → Disjoint rows → Distinct (on rows d)
distinct_on [] d c = tt
distinct_on (r ∷ rows) d c = step (holds r d) (holds_decides r d).0 (distinct_on rows d c.1)
  where
    other : Holds r d → (t : Tuple) → Member (on rows d) t → r.tuple ≡ t → ⊥
    other h t m e = never (λ s n k. n (e ∙ sym k.0) (d, (h, k.1))) rows c.0 ((day_set rows d t).0 m)

    step : (b : Bool) → (b ≡ true → Holds r d) → Distinct (on rows d) → Distinct (cond b (r.tuple ∷ on rows d) (on rows d))
    step true h k = (not_in r.tuple (on rows d) (λ m. other (h refl) r.tuple m refl), k)
    step false h k = k

distinct_kept_by : {X : Type 0} (p : X → Bool) (xs : List X) → Distinct xs → Distinct (filter p xs)
distinct_kept_by p [] c = tt
distinct_kept_by p (x ∷ xs) c = step (p x) (distinct_kept_by p xs c.1)
  where
    step : (b : Bool) → Distinct (filter p xs) → Distinct (cond b (x ∷ filter p xs) (filter p xs))
    step true h = (all_kept_by p (λ y. x ≡ y → ⊥) xs c.0, h)
    step false h = h

once_all : (S : TupleSet) → Distinct S → once S ≡ S
once_all [] c = refl
once_all (s ∷ S) c = step (has S s) (has_decides S s).0 (once_all S c.1)
  where
    step : (b : Bool) → (b ≡ true → Member S s) → once S ≡ S → cond b (once S) (s ∷ once S) ≡ s ∷ S
    step true m e = absurd (never (λ t n h. n (sym h)) S c.0 (m refl))
    step false m e = ap (λ (R : TupleSet). s ∷ R) e

-- ---- folds over the tuples, and over the rows

total_rows : (c : ℕ) (rows : List SpecRow) → total c (tuples rows) ≡ row_total c rows
total_rows c [] = refl
total_rows c (r ∷ rows) = ap (λ z. column c r.tuple +ℤ z) (total_rows c rows)

-- the laws of the least and of the greatest
pub record Picks (f : ℤ → ℤ → ℤ) : Type 0 where
  pub assoc : (x y z : ℤ) → f x (f y z) ≡ f (f x y) z
  pub comm : (x y : ℤ) → f x y ≡ f y x
  pub idem : (x : ℤ) → f x x ≡ x

pub min_picks : Picks int_min
min_picks = record { assoc = λ x y z. omega (arith, ints, clamps); comm = λ x y. omega (arith, ints, clamps); idem = λ x. omega (arith, ints, clamps) }

pub max_picks : Picks int_max
max_picks = record { assoc = λ x y z. omega (arith, ints, clamps); comm = λ x y. omega (arith, ints, clamps); idem = λ x. omega (arith, ints, clamps) }

module _ (f : ℤ → ℤ → ℤ) (law : Picks f) (c : ℕ) where
  best_more : (x y : ℤ) (rows : List SpecRow) → f x (row_best f c y rows) ≡ row_best f c (f x y) rows
  best_more x y [] = refl
  best_more x y (r ∷ rows) = best_more x (f y (column c r.tuple)) rows ∙ ap (λ z. row_best f c z rows) (law.assoc x y (column c r.tuple))

  best_rows : (t : Tuple) (rows : List SpecRow) → best f c t (tuples rows) ≡ row_best f c (column c t) rows
  best_rows t [] = refl
  best_rows t (r ∷ rows) = ap (f (column c t)) (best_rows r.tuple rows) ∙ best_more (column c t) (column c r.tuple) rows

  -- the value of one of the rows changes nothing
  absorbed : (t : Tuple) (r : SpecRow) (rows : List SpecRow) → Member (tuples (r ∷ rows)) t → f (column c t) (row_best f c (column c r.tuple) rows) ≡ row_best f c (column c r.tuple) rows
  absorbed t r rows (inl e) = best_more (column c t) (column c r.tuple) rows ∙ ap (λ x. row_best f c x rows) (ap (λ u. f (column c u) (column c r.tuple)) (sym e) ∙ law.idem (column c r.tuple))
  absorbed t r [] (inr m) = absurd m
  absorbed t r (s ∷ rows) (inr m) =
      let x = column c t in
      let y = column c r.tuple in
      let z = column c s.tuple in
      let v = row_best f c z rows in
      ap (f x) (sym (best_more y z rows)) ∙ law.assoc x y v ∙ ap (λ k. f k v) (law.comm x y) ∙ sym (law.assoc y x v) ∙ ap (f y) (absorbed t s rows m) ∙ best_more y z rows

  -- so the best can be taken from the first row on
  pub best_from_first : (t : Tuple) (r : SpecRow) (rows : List SpecRow) → Member (tuples (r ∷ rows)) t → row_best f c (column c t) (r ∷ rows) ≡ row_best f c (column c r.tuple) rows
  best_from_first t r rows m = sym (best_more (column c t) (column c r.tuple) rows) ∙ absorbed t r rows m

-- ---- the value

module _ (by : List ℕ) (rows : List SpecRow) (d : ℕ) (t : Tuple) (c : Disjoint rows) (m : Member (on rows d) t) where
  once_rows : once (t ∷ group by (on rows d) t) ≡ tuples (held_in by t d rows)
  once_rows =
      cond-true _ _ _ ((has_decides (group by (on rows d) t) t).1 ((groups by (on rows d) t t).1 (m, refl)))
      ∙ once_all (group by (on rows d) t) (distinct_kept_by _ (on rows d) (distinct_on rows d c))
      ∙ group_rows by t d rows

  given : (w : Tally) → value w t (group by (on rows d) t) ≡ amount w t (held_in by t d rows)
  given Count = ap (λ (ts : TupleSet). pos (length ts)) once_rows ∙ ap pos (length-map (held_in by t d rows) (λ r. r.tuple))
  given (Sum k) = ap (total k) once_rows ∙ total_rows k (held_in by t d rows)
  given (Min k) = ap (best int_min k t) (group_rows by t d rows) ∙ best_rows int_min min_picks k t (held_in by t d rows)
  given (Max k) = ap (best int_max k t) (group_rows by t d rows) ∙ best_rows int_max max_picks k t (held_in by t d rows)

pub rows_tallied : theorems.RowsTallied
rows_tallied w by rows d t c m = given by rows d t c m w
