-- Rows with unused values 0, once as stored and once by the values of their columns: one list is canonical where the other is.
use Rattle.std.proofs.Common.{◌≡◌, ℕ, zero, suc, ◌≤◌, ◌⊎◌, List, [], ◌∷◌, map, length, pos, Ordering, Less, Equal, Greater, sym, refl, ap, ◌∙◌, ap₂, inl, inr, arith}
use Rattle.std.specs.Ordering.{is_eq, ordering_then, int_cmp}
use Rattle.std.specs.Cmp.Lexicographic.{slice_cmp}
use Rattle.std.specs.List.{AllByRecursion as AllOf}
use Rattle.relation.specs.declared.rows.Row.{Row}
use Rattle.relation.specs.Bounds.{most_columns}
use Rattle.relation.specs.Lists.{Any, Pairwise}
use Rattle.relation.specs.Sets.{Tuple, Below}
use Rattle.relation.specs.Rows.{SpecRow, Period, Holds, Share, Meet, Ahead, Canonical, on, Lists}
use Rattle.relation.specs.Stored.{firsts, meant}
use Rattle.relation.proofs.Firsts.{length_firsts}
use Rattle.relation.proofs.TupleSets.{equal_decides}
use Rattle.relation.proofs.Held.{In, day_set}
use Rattle.collect.specs.Areas.{bare, Tidy}
use Rattle.collect.proofs.Indexed.{any_from_map}

-- ---- the order of padded tuples

is_equal_lem : (r : Ordering) → is_eq r ≡ mathlib.Core.Bool.true → r ≡ Equal
is_equal_lem Less h = let z : ◌≡◌ {A = ℕ} 0 1 = cc in absurd (omega arith)
is_equal_lem Equal h = refl
is_equal_lem Greater h = let z : ◌≡◌ {A = ℕ} 0 1 = cc in absurd (omega arith)

lex_same : (t : Tuple) → slice_cmp int_cmp t t ≡ Equal
lex_same t = is_equal_lem (slice_cmp int_cmp t t) ((equal_decides t t).1 refl)

-- padding does not change how two tuples of one length compare
lex_padded : (n : ℕ) (s t : Tuple) → length s ≡ length t → length s ≤ n → slice_cmp int_cmp (firsts n s (pos 0)) (firsts n t (pos 0)) ≡ slice_cmp int_cmp s t
lex_padded n [] [] e h = lex_same (firsts n [] (pos 0))
lex_padded n [] (y ∷ t) e h = absurd (omega arith)
lex_padded n (x ∷ s) [] e h = absurd (omega arith)
lex_padded zero (x ∷ s) (y ∷ t) e h = absurd (omega arith)
lex_padded (suc n) (x ∷ s) (y ∷ t) e h = ap (ordering_then (int_cmp x y)) (lex_padded n s t (omega arith) (omega arith))

-- ---- from stored values to columns

module _ (c : ℕ) (few : c ≤ most_columns) where
  -- tidy rows with the same columns have the same values
  same_values : (r s : Row) → Tidy c r → Tidy c s → firsts c r.values (pos 0) ≡ firsts c s.values (pos 0) → r.values ≡ s.values
  same_values r s p q e = p ∙ ap (λ t. firsts most_columns t (pos 0)) e ∙ sym q

  narrow_below : (r s : Row) → Tidy c r → Tidy c s → Below r.values s.values → Below (firsts c r.values (pos 0)) (firsts c s.values (pos 0))
  narrow_below r s p q b =
      let long = length_firsts c r.values (pos 0) in
      let same : length (firsts c r.values (pos 0)) ≡ length (firsts c s.values (pos 0)) = long ∙ sym (length_firsts c s.values (pos 0)) in
      sym (lex_padded most_columns (firsts c r.values (pos 0)) (firsts c s.values (pos 0)) same (omega arith)) ∙ ap₂ (slice_cmp int_cmp) (sym p) (sym q) ∙ b

  narrow_ahead : (r s : Row) → Tidy c r → Tidy c s → Ahead (bare r) (bare s) → Ahead (meant c r) (meant c s)
  narrow_ahead r s p q (inl b) = inl (narrow_below r s p q b)
  narrow_ahead r s p q (inr h) = inr (ap (λ t. firsts c t (pos 0)) h.0, h.1)

  abbrev Apart : SpecRow → SpecRow → Type 0
  Apart r s = r.tuple ≡ s.tuple → Share r s ⊎ Meet r s → ⊥

  narrow_apart : (r s : Row) → Tidy c r → Tidy c s → Apart (bare r) (bare s) → Apart (meant c r) (meant c s)
  narrow_apart r s p q n e = n (same_values r s p q e)

  -- what holds of two rows as stored holds of them by their columns
  narrow_all : (R S : SpecRow → SpecRow → Type 0) → ((r s : Row) → Tidy c r → Tidy c s → R (bare r) (bare s) → S (meant c r) (meant c s)) → (r : Row) (l : List Row) → Tidy c r → AllOf (Tidy c) l → AllOf (R (bare r)) (map bare l) → AllOf (S (meant c r)) (map (meant c) l)
  narrow_all R S f r [] p ts h = tt
  narrow_all R S f r (s ∷ l) p ts h = (f r s p ts.0 h.0, narrow_all R S f r l p ts.1 h.1)

  narrow_pairs : (R S : SpecRow → SpecRow → Type 0) → ((r s : Row) → Tidy c r → Tidy c s → R (bare r) (bare s) → S (meant c r) (meant c s)) → (l : List Row) → AllOf (Tidy c) l → Pairwise R (map bare l) → Pairwise S (map (meant c) l)
  narrow_pairs R S f [] ts h = tt
  narrow_pairs R S f (r ∷ l) ts h = (narrow_all R S f r l ts.0 ts.1 h.0, narrow_pairs R S f l ts.1 h.1)

  narrow_periods : (l : List Row) → AllOf Period (map bare l) → AllOf Period (map (meant c) l)
  narrow_periods [] h = tt
  narrow_periods (r ∷ l) h = (h.0, narrow_periods l h.1)

  narrow_canonical : (l : List Row) → AllOf (Tidy c) l → Canonical (map bare l) → Canonical (map (meant c) l)
  narrow_canonical l ts h = record {
    periods = narrow_periods l h.periods;
    coalesced = narrow_pairs Apart Apart narrow_apart l ts h.coalesced;
    listed = narrow_pairs Ahead Ahead narrow_ahead l ts h.listed;
  }

  -- ---- the sets

  some_row : (l : List Row) (d : ℕ) (t : Tuple) → In (map (meant c) l) d t → Any (λ w. (firsts c w.values (pos 0) ≡ t) × Holds (bare w) d) l
  some_row l d t i = any_from_map (meant c) (λ r. (r.tuple ≡ t) × Holds r d) l i

  narrow_in : (l m : List Row) (d : ℕ) → ((t : Tuple) → In (map bare l) d t → In (map bare m) d t) → (t : Tuple) → In (map (meant c) l) d t → In (map (meant c) m) d t
  narrow_in l m d f t i = go l i (λ v h. f v h)
    where
      found : (v : Tuple) → firsts c v (pos 0) ≡ t → (ws : List Row) → In (map bare ws) d v → In (map (meant c) ws) d t
      found v e [] h = absurd h
      found v e (w ∷ ws) (inl h) = inl (ap (λ x. firsts c x (pos 0)) h.0 ∙ e, h.1)
      found v e (w ∷ ws) (inr h) = inr (found v e ws h)

      go : (ws : List Row) → In (map (meant c) ws) d t → ((v : Tuple) → In (map bare ws) d v → In (map bare m) d v) → In (map (meant c) m) d t
      go [] h k = absurd h
      go (w ∷ ws) (inl h) k = found w.values h.0 m (k w.values (inl (refl, h.1)))
      go (w ∷ ws) (inr h) k = go ws h (λ v j. k v (inr j))

  pub narrow_lists : (l m : List Row) → AllOf (Tidy c) l → Lists (map bare l) (on (map bare m)) → Lists (map (meant c) l) (on (map (meant c) m))
  narrow_lists l m ts h = record {
    canonical = narrow_canonical l ts h.canonical;
    sets = λ d day t. (
      (λ i. (day_set (map (meant c) m) d t).1 (narrow_in l m d (λ v j. (day_set (map bare m) d v).0 ((h.sets d day v).0 ((day_set (map bare l) d v).1 j))) t ((day_set (map (meant c) l) d t).0 i))),
      λ i. (day_set (map (meant c) l) d t).1 (narrow_in m l d (λ v j. (day_set (map bare l) d v).0 ((h.sets d day v).1 ((day_set (map bare m) d v).1 j))) t ((day_set (map (meant c) m) d t).0 i)),
    );
  }
