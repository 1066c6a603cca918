-- In the columns from 1 on stand the first values of a tuple.
use Rattle.std.proofs.Common.{◌≡◌, ℕ, zero, suc, ◌+◌, ◌-◌, ◌<◌, cond, ◌&&◌, ltb, List, [], ◌∷◌, ◌++◌, get_or, pos, sym, refl, ap, ◌∙◌, arith}
use lib.Signed.{lt_z}
use Rattle.std.proofs.lemmas.List.{ext_get_or}
use Rattle.std.proofs.lemmas.List.FromFn.{length-map-range_with_len, get_or-map-range_with_len}
use Rattle.relation.specs.declared.rows.Row.{Row}
use Rattle.relation.specs.Bounds.{most_columns}
use Rattle.relation.specs.Operations.{picked}
use Rattle.relation.specs.Sets.{Tuple, column}
use Rattle.relation.specs.Stored.{firsts}
use Rattle.relation.proofs.Firsts.{length_firsts}
use Rattle.collect.specs.Areas.{no_row}
use Rattle.cuts.specs.Amounts.{value, held, amount}
use Rattle.cuts.specs.Stretches.{stretch_by}
use Rattle.cuts.specs.Widths.{stretch, first_columns, TuplesFirst, StretchesFirst, RowsFirst}

first_at : {X : Type 0} (n i : ℕ) (xs : List X) (d : X) → i < n → get_or (firsts n xs d) i d ≡ get_or xs i d
first_at zero i xs d lt = absurd (omega arith)
first_at (suc n) zero [] d lt = refl
first_at (suc n) zero (x ∷ xs) d lt = refl
first_at (suc n) (suc i) [] d lt = first_at n i [] d (omega arith)
first_at (suc n) (suc i) (x ∷ xs) d lt = first_at n i xs d (omega arith)

firsts_picked : (n : ℕ) (t : Tuple) → picked (first_columns n) t ≡ firsts n t (pos 0)
firsts_picked n t =
    let at = λ (c : ℕ). column c t in
    ext_get_or (pos 0) (picked (first_columns n) t) (firsts n t (pos 0)) (length-map-range_with_len at 1 n ∙ sym (length_firsts n t (pos 0)))
    (λ i lt. let l : i < n = omega (arith, length-map-range_with_len at 1 n) in
    get_or-map-range_with_len at 1 n i (i + 1) (pos 0) l (omega arith) ∙ ap (λ k. get_or t k (pos 0)) (less_one i) ∙ sym (first_at n i t (pos 0) l))
  where
    less_one : (i : ℕ) → i + 1 - 1 ≡ i
    less_one i = omega arith

pub tuples_first : TuplesFirst
tuples_first group width amount = ap (λ vs. firsts most_columns (vs ++ (amount ∷ [])) (pos 0)) (firsts_picked width group.values)

stretch_first : (group : Row) (width : ℕ) (c next : Row) → stretch_by group (first_columns width) c next ≡ stretch group width c next
stretch_first group width c next = λ i. record { first = c.first; end = next.first; values = tuples_first group width (value 1 c) i }

pub stretches_first : StretchesFirst
stretches_first group width [] = refl
stretches_first group width (c ∷ []) = refl
stretches_first group width (c ∷ next ∷ cs) = λ i.
    cond (lt_z (pos 0) (value 0 c) && ltb c.first next.first) (stretch_first group width c next i ∷ stretches_first group width (next ∷ cs) i) (stretches_first group width (next ∷ cs) i)

pub rows_first : RowsFirst
rows_first m width group d w g = record { some = g.some; values = g.values ∙ tuples_first (get_or group 0 no_row) width (amount m (held group d)) }
