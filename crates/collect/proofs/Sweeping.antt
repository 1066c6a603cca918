-- The sweep in an area of rows, from turn to turn.
use Rattle.std.proofs.Common.{◌≡◌, ℕ, suc, ◌+◌, ◌<◌, ◌≤◌, max, List, [], ◌∷◌, ◌++◌, map, length, get_or, take, drop, set, sym, refl, ap, ◌∙◌, subst, ap₂, arith}
use Rattle.relation.specs.declared.rows.Row.{Row}
use Rattle.relation.specs.Lists.{Pairwise}
use Rattle.relation.specs.Rows.{SpecRow, Period, on, Lists}
use Rattle.std.specs.List.{AllByRecursion as AllOf}
use Rattle.std.proofs.ByRecursion.{All-get_or, All-from_get_or, All-map}
use Rattle.std.proofs.lemmas.List.{length-take-le, get_or-take, get_or-set_same, get_or-set_other, take-set, drop_more, drop_all, map_more, get_or-map, length-map, append_assoc}
use Rattle.std.proofs.lemmas.Bool.{cond-true, cond-false}
use Rattle.collect.specs.Areas.{no_row, bare, Rises}
use Rattle.collect.proofs.Sweeps.{Rising, joins_decides, joins_not, sweep, sweep_all, sweep_lists}

abbrev pub row_at : List Row → ℕ → SpecRow
row_at rows k = bare (get_or rows k no_row)

-- what the sweep of the first n rows makes
abbrev pub swept : ℕ → List Row → List SpecRow
swept n rows = sweep (row_at rows 0) (map bare (drop 1 (take n rows)))

-- the rows as they were and as they are now; `last` is the row that is open, and i the next to read
pub record Sweeping (n : ℕ) (rows₀ rows : List Row) (last i : ℕ) : Type 0 where
  pub behind : last < i
  pub within : i ≤ n
  pub front : map bare (take last rows) ++ sweep (row_at rows last) (map bare (drop i (take n rows₀))) ≡ swept n rows₀
  pub rest : (k : ℕ) → i ≤ k → get_or rows k no_row ≡ get_or rows₀ k no_row

pub sweeping_none : (n : ℕ) (rows : List Row) → 0 < n → Sweeping n rows rows 0 1
sweeping_none n rows l = record { behind = omega arith; within = omega arith; front = refl; rest = λ k m. refl }

module _ (n : ℕ) (rows₀ rows : List Row) (last i : ℕ) (a : Sweeping n rows₀ rows last i) (l : i < n) (long : n ≤ length rows) (long₀ : n ≤ length rows₀) where
  -- the next row is as it was
  next : map bare (drop i (take n rows₀)) ≡ row_at rows i ∷ map bare (drop (i + 1) (take n rows₀))
  next =
      ap (map bare) (drop_more (take n rows₀) i no_row (omega (arith, length-take-le n rows₀ long₀)))
      ∙ ap (λ r. bare r ∷ map bare (drop (i + 1) (take n rows₀))) (get_or-take n rows₀ i no_row l ∙ sym (a.rest i (omega arith)))

  -- the open row with another end
  abbrev ending : ℕ → Row
  ending e = record { first = (get_or rows last no_row).first; end = e; values = (get_or rows last no_row).values }

  pub sweeping_grown : (e : ℕ) → e ≡ max (get_or rows last no_row).end (get_or rows i no_row).end → (get_or rows last no_row).values ≡ (get_or rows i no_row).values → (get_or rows i no_row).first ≤ (get_or rows last no_row).end → Sweeping n rows₀ (set rows last (ending e)) last (i + 1)
  sweeping_grown e is same meet = record { behind = omega (arith, a.behind); within = omega arith; front = front; rest = rest }
    where
      front : map bare (take last (set rows last (ending e))) ++ sweep (row_at (set rows last (ending e)) last) (map bare (drop (i + 1) (take n rows₀))) ≡ swept n rows₀
      front =
          ap₂ (λ xs y. map bare xs ++ sweep y (map bare (drop (i + 1) (take n rows₀)))) (take-set rows last (ending e)) (ap bare (get_or-set_same rows last (ending e) no_row (omega (arith, a.behind)) ∙ ap ending is))
          ∙ ap (λ x. map bare (take last rows) ++ x) (sym (cond-true _ _ _ ((joins_decides (row_at rows last) (row_at rows i)).1 (same, meet))) ∙ ap (sweep (row_at rows last)) (sym next))
          ∙ a.front

      rest : (k : ℕ) → i + 1 ≤ k → get_or (set rows last (ending e)) k no_row ≡ get_or rows₀ k no_row
      rest k m = get_or-set_other rows last k (ending e) no_row (λ x. omega (arith, a.behind)) ∙ a.rest k (omega arith)

  pub sweeping_new : ((get_or rows last no_row).values ≡ (get_or rows i no_row).values → (get_or rows i no_row).first ≤ (get_or rows last no_row).end → ⊥) → Sweeping n rows₀ (set rows (last + 1) (get_or rows i no_row)) (last + 1) (i + 1)
  sweeping_new apart = record { behind = omega (arith, a.behind); within = omega arith; front = front; rest = rest }
    where
      front : map bare (take (last + 1) (set rows (last + 1) (get_or rows i no_row))) ++ sweep (row_at (set rows (last + 1) (get_or rows i no_row)) (last + 1)) (map bare (drop (i + 1) (take n rows₀))) ≡ swept n rows₀
      front =
          ap₂ (λ xs y. xs ++ sweep y (map bare (drop (i + 1) (take n rows₀)))) (ap (map bare) (take-set rows (last + 1) (get_or rows i no_row)) ∙ map_more bare rows last no_row (omega (arith, a.behind))) (ap bare (get_or-set_same rows (last + 1) (get_or rows i no_row) no_row (omega (arith, a.behind))))
          ∙ append_assoc (map bare (take last rows)) (row_at rows last ∷ []) (sweep (row_at rows i) (map bare (drop (i + 1) (take n rows₀))))
          ∙ ap (λ x. map bare (take last rows) ++ x) (sym (cond-false _ _ _ (joins_not (row_at rows last) (row_at rows i) apart)) ∙ ap (sweep (row_at rows last)) (sym next))
          ∙ a.front

      rest : (k : ℕ) → i + 1 ≤ k → get_or (set rows (last + 1) (get_or rows i no_row)) k no_row ≡ get_or rows₀ k no_row
      rest k m = get_or-set_other rows (last + 1) k (get_or rows i no_row) no_row (λ x. omega (arith, a.behind)) ∙ a.rest k (omega arith)

-- ---- the end

pub sweeping_all : (n : ℕ) (rows₀ rows : List Row) (last i : ℕ) → Sweeping n rows₀ rows last i → n ≤ i → n ≤ length rows → n ≤ length rows₀ → map bare (take (last + 1) rows) ≡ swept n rows₀
sweeping_all n rows₀ rows last i a l long long₀ =
    map_more bare rows last no_row (omega (arith, a.behind, a.within))
    ∙ ap (λ x. map bare (take last rows) ++ sweep (row_at rows last) (map bare x)) (sym (drop_all i (take n rows₀) (omega (arith, length-take-le n rows₀ long₀))))
    ∙ a.front

-- its tuple is that of one of the first n rows
abbrev pub Drawn : ℕ → List Row → SpecRow → Type 0
Drawn n rows r = (j : ℕ) × ((j < n) × (r.tuple ≡ (get_or rows j no_row).values))

rising : (xs : List Row) → ((i j : ℕ) → i < j → j < length xs → Rises (get_or xs i no_row) (get_or xs j no_row)) → Pairwise Rising (map bare xs)
rising [] h = tt
rising (r ∷ xs) h = (All-map (Rising (bare r)) bare xs (All-from_get_or (λ s. Rises r s) xs no_row (λ j l. h 0 (suc j) (omega arith) (omega arith))), rising xs λ i j l m. h (suc i) (suc j) (omega arith) (omega arith))

module _ (n : ℕ) (rows : List Row) (some : 0 < n) (long : n ≤ length rows) where
  -- the first n rows, with the first of them in front
  whole : map bare (take n rows) ≡ row_at rows 0 ∷ map bare (drop 1 (take n rows))
  whole = ap (map bare) (drop_more (take n rows) 0 no_row (omega (arith, length-take-le n rows long))) ∙ ap (λ r. bare r ∷ map bare (drop 1 (take n rows))) (get_or-take n rows 0 no_row some)

  -- what holds of each of the first n rows
  each : (P : SpecRow → Type 0) → ((k : ℕ) → k < n → P (row_at rows k)) → AllOf P (map bare (take n rows))
  each P h = All-map P bare (take n rows) (All-from_get_or (λ r. P (bare r)) (take n rows) no_row λ k l. let m : k < n = omega (arith, length-take-le n rows long) in subst (λ r. P (bare r)) (sym (get_or-take n rows k no_row m)) (h k m))

  pub swept_lists : ((i j : ℕ) → i < j → j < n → Rises (get_or rows i no_row) (get_or rows j no_row)) → ((i : ℕ) → i < n → Period (row_at rows i)) → Lists (swept n rows) (on (map bare (take n rows)))
  swept_lists sorted periods =
      subst (λ l. Lists (swept n rows) (on l)) (sym whole)
      (sweep_lists (row_at rows 0) (map bare (drop 1 (take n rows))) (subst (AllOf Period) whole (each Period periods)) (subst (Pairwise Rising) whole (rising (take n rows) pairs)))
    where
      pairs : (i j : ℕ) → i < j → j < length (take n rows) → Rises (get_or (take n rows) i no_row) (get_or (take n rows) j no_row)
      pairs i j l m =
          let b : j < n = omega (arith, length-take-le n rows long) in
          let a : i < n = omega arith in
          rw (get_or-take n rows i no_row a, get_or-take n rows j no_row b) (sorted i j l b)

  pub swept_drawn : AllOf (Drawn n rows) (swept n rows)
  swept_drawn = sweep_all (λ t f. (j : ℕ) × ((j < n) × (t ≡ (get_or rows j no_row).values))) (row_at rows 0) (map bare (drop 1 (take n rows))) (subst (AllOf (Drawn n rows)) whole (each (Drawn n rows) λ k l. (k, (l, refl))))

-- what holds of each row listed
pub at_row : (P : SpecRow → Type 0) (n : ℕ) (rows : List Row) → n ≤ length rows → AllOf P (map bare (take n rows)) → (k : ℕ) → k < n → P (row_at rows k)
at_row P n rows long h k l =
    let m : k < length (take n rows) = omega (arith, length-take-le n rows long) in
    subst P (get_or-map bare (take n rows) k no_row (bare no_row) m ∙ ap bare (get_or-take n rows k no_row l)) (All-get_or P (map bare (take n rows)) k (bare no_row) (simp length-map m) h)
