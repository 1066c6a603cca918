-- What a group of stored rows comes to is what its tuples come to.
use Rattle.std.proofs.Common.{◌≡◌, ℕ, zero, suc, ◌-◌, ◌<◌, ◌≤◌, Bool, true, false, cond, ◌&&◌, List, [], ◌∷◌, map, get_or, ℤ, pos, ◌+ℤ◌, fold, filter, sym, refl, ap, ◌∙◌, ap₂, arith}
use lib.ListN.{length-map}
use Rattle.std.specs.Int.{int_min, int_max}
use Rattle.std.specs.List.{AllByRecursion as AllOf}
use Rattle.std.proofs.lemmas.Bool.{cond-true, cond-false}
use Rattle.relation.specs.Bounds.{most_columns}
use Rattle.relation.specs.Lists.{Member}
use Rattle.relation.specs.Operations.{picked}
use Rattle.relation.specs.Sets.{Tuple, column, equal}
use Rattle.relation.specs.Rows.{SpecRow, holds}
use Rattle.relation.specs.Stored.{firsts, stored}
use Rattle.collect.specs.Areas.{bare}
use Rattle.tallies.specs.declared.rules.Tally.{Tally}
use Rattle.tallies.specs.declared.rules.Tally.TheVariants.{Count, Sum, Min, Max}
use Rattle.tallies.specs.Tallies as tallies
use Rattle.tallies.specs.Tallies.{held_in, row_total, row_best}
use Rattle.tallies.proofs.RowsTallied.{tuples, Picks, min_picks, max_picks, best_from_first}
use Rattle.cuts.specs.Amounts.{valued, total, amount}
use Rattle.tally.specs.Results.{Narrow, in_group}

-- ---- columns of stored tuples

pub get_d_firsts : {X : Type 0} (n : ℕ) (xs : List X) (d : X) (i : ℕ) → i < n → get_or (firsts n xs d) i d ≡ get_or xs i d
get_d_firsts zero xs d i h = absurd (omega arith)
get_d_firsts (suc n) [] d zero h = refl
get_d_firsts (suc n) [] d (suc i) h = get_d_firsts n [] d i (omega arith)
get_d_firsts (suc n) (x ∷ xs) d zero h = refl
get_d_firsts (suc n) (x ∷ xs) d (suc i) h = get_d_firsts n xs d i (omega arith)

pub column_stored : (c : ℕ) (t : Tuple) → c ≤ most_columns → column c (firsts most_columns t (pos 0)) ≡ column c t
column_stored c t few = get_d_firsts most_columns t (pos 0) (c - 1) (omega arith)

pub picked_stored : (by : List ℕ) (t : Tuple) → AllOf (λ c. c ≤ most_columns) by → picked by (firsts most_columns t (pos 0)) ≡ picked by t
picked_stored [] t h = refl
picked_stored (c ∷ by) t h = ap₂ (λ z zs. z ∷ zs) (column_stored c t h.0) (picked_stored by t h.1)

-- ---- the rows of the group

kept_map : {X Y : Type 0} (p : Y → Bool) (q : X → Bool) (f : X → Y) → ((x : X) → p (f x) ≡ q x) → (xs : List X) → filter p (map f xs) ≡ map f (filter q xs)
kept_map p q f e [] = refl
kept_map p q f e (x ∷ xs) = step (q x) (e x) (kept_map p q f e xs)
  where
    step : (b : Bool) → p (f x) ≡ b → filter p (map f xs) ≡ map f (filter q xs) → cond (p (f x)) (f x ∷ filter p (map f xs)) (filter p (map f xs)) ≡ map f (cond b (x ∷ filter q xs) (filter q xs))
    step true h more = cond-true _ _ _ h ∙ ap (λ ys. f x ∷ ys) more
    step false h more = cond-false _ _ _ h ∙ more

pub in_group_stored : (by : List ℕ) → AllOf (λ c. c ≤ most_columns) by → (x : SpecRow) (d : ℕ) (xs : List SpecRow) → in_group by (stored x) d (map stored xs) ≡ map stored (held_in by x.tuple d xs)
in_group_stored by few x d xs =
    kept_map (λ w. holds (bare w) d && equal (picked by w.values) (picked by (stored x).values)) (λ r. holds r d && equal (picked by r.tuple) (picked by x.tuple)) stored
    (λ r. ap₂ (λ s t. holds r d && equal s t) (picked_stored by r.tuple few) (picked_stored by x.tuple few)) xs

-- ---- what they come to

total_stored : (c : ℕ) → c ≤ most_columns → (xs : List SpecRow) → total (map (valued c) (map stored xs)) ≡ row_total c xs
total_stored c few [] = refl
total_stored c few (x ∷ xs) = ap₂ (λ (y z : ℤ). y +ℤ z) (column_stored c x.tuple few) (total_stored c few xs)

folded_stored : (f : ℤ → ℤ → ℤ) (c : ℕ) → c ≤ most_columns → (v u : ℤ) → v ≡ u → (xs : List SpecRow) → fold f v (map (valued c) (map stored xs)) ≡ row_best f c u xs
folded_stored f c few v u e [] = e
folded_stored f c few v u e (x ∷ xs) = folded_stored f c few (f v (valued c (stored x))) (f u (column c x.tuple)) (ap₂ f e (column_stored c x.tuple few)) xs

best_stored : (f : ℤ → ℤ → ℤ) → Picks f → (c : ℕ) → c ≤ most_columns → (t : Tuple) (x : SpecRow) (xs : List SpecRow) → Member (tuples (x ∷ xs)) t → fold f (valued c (stored x)) (map (valued c) (map stored xs)) ≡ row_best f c (column c t) (x ∷ xs)
best_stored f law c few t x xs m = folded_stored f c few (valued c (stored x)) (column c x.tuple) (column_stored c x.tuple few) xs ∙ sym (best_from_first f law c t x xs m)

pub amount_stored : (w : Tally) → Narrow w → (t : Tuple) (xs : List SpecRow) → Member (tuples xs) t → amount (w) (map stored xs) ≡ tallies.amount w t xs
amount_stored Count few t xs m = ap pos (length-map xs stored)
amount_stored (Sum c) few t xs m = total_stored c few xs
amount_stored (Min c) few t [] m = absurd m
amount_stored (Min c) few t (x ∷ xs) m = best_stored int_min min_picks c few t x xs m
amount_stored (Max c) few t [] m = absurd m
amount_stored (Max c) few t (x ∷ xs) m = best_stored int_max max_picks c few t x xs m
