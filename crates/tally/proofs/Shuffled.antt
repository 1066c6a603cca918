-- The rows of a list in another order.
use Rattle.std.proofs.Common.{◌≡◌, ℕ, zero, suc, ◌<◌, ◌⊎◌, List, [], ◌∷◌, map, length, get_or, sym, ap, ◌∙◌, inl, inr, arith}
use lib.ListN.{length-map}
use Rattle.std.specs.List.{ContainsAt as Has, AllByRecursion as AllOf}
use Rattle.std.proofs.ByRecursion.{All-get_or, All-map}
use Rattle.std.proofs.lemmas.List.{get_or-map}
use Rattle.std.proofs.lemmas.Bool.{cases_order}
use Rattle.relation.specs.Lists.{Pairwise}
use Rattle.relation.specs.Sets.{Same}
use Rattle.relation.specs.Rows.{SpecRow, Holds, Share, on}
use Rattle.relation.proofs.Held.{day_set}
use Rattle.relation.proofs.Pigeons.{all_both}
use Rattle.tree.specs.Orders as order
use Rattle.collect.proofs.Indexed.{no_spec, any_drawn}
use Rattle.tallies.specs.Tallies.{Disjoint}

at_pairs : {X : Type 0} (R : X → X → Type 0) (xs : List X) (d : X) → Pairwise R xs → (i j : ℕ) → i < j → j < length xs → R (get_or xs i d) (get_or xs j d)
at_pairs R [] d h i j a lt = absurd (omega arith)
at_pairs R (x ∷ xs) d h zero zero a lt = absurd (omega arith)
at_pairs R (x ∷ xs) d h zero (suc j) a lt = All-get_or (R x) xs j d (omega arith) h.0
at_pairs R (x ∷ xs) d h (suc i) zero a lt = absurd (omega arith)
at_pairs R (x ∷ xs) d h (suc i) (suc j) a lt = at_pairs R xs d h.1 i j (omega arith) (omega arith)

pairs_of : {X : Type 0} (R : X → X → Type 0) (f : ℕ → X) (n : ℕ) → ((p q : ℕ) → p < n → q < n → (q ≡ p → ⊥) → R (f p) (f q)) → (ps : List ℕ) → AllOf (λ p. p < n) ps → order.Distinct ps → Pairwise R (map f ps)
pairs_of R f n each [] a d = tt
pairs_of R f n each (p ∷ ps) a d = (All-map (R (f p)) f ps (all_both (λ q lt ne. each p q a.0 lt ne) ps a.1 d.0), pairs_of R f n each ps a.1 d.1)

module _ (xs : List SpecRow) (ps : List ℕ) (all : AllOf (λ p. p < length xs) ps) where
  -- the rows at the places ps
  abbrev pub shuffled : List SpecRow
  shuffled = map (λ p. get_or xs p no_spec) ps

  pub disjoint_shuffled : order.Distinct ps → Disjoint xs → Disjoint shuffled
  disjoint_shuffled distinct h = pairs_of (λ r s. r.tuple ≡ s.tuple → Share r s → ⊥) (λ p. get_or xs p no_spec) (length xs) each ps all distinct
    where
      each : (p q : ℕ) → p < length xs → q < length xs → (q ≡ p → ⊥) → (get_or xs p no_spec).tuple ≡ (get_or xs q no_spec).tuple → Share (get_or xs p no_spec) (get_or xs q no_spec) → ⊥
      each p q a b ne e s = step (cases_order p q)
        where
          step : (p ≡ q) ⊎ ((p < q) ⊎ (q < p)) → ⊥
          step (inl same) = ne (sym same)
          step (inr (inl l)) = at_pairs (λ r s. r.tuple ≡ s.tuple → Share r s → ⊥) xs no_spec h p q l b e s
          step (inr (inr l)) = at_pairs (λ r s. r.tuple ≡ s.tuple → Share r s → ⊥) xs no_spec h q p l a (sym e) (s.0, (s.1.1, s.1.0))

  pub same_shuffled : ((p : ℕ) → p < length xs → Has ps p) → (d : ℕ) → Same (on shuffled d) (on xs d)
  same_shuffled has d t = (
    (λ m. (day_set xs d t).1 (any_drawn P shuffled xs no_spec from ((day_set shuffled d t).0 m))),
    λ m. (day_set shuffled d t).1 (any_drawn P xs shuffled no_spec to ((day_set xs d t).0 m)),
  )
    where
      P : SpecRow → Type 0
      P r = (r.tuple ≡ t) × Holds r d

      long : length shuffled ≡ length ps
      long = length-map ps (λ p. get_or xs p no_spec)

      from : (i : ℕ) → i < length shuffled → (j : ℕ) × ((j < length xs) × (get_or shuffled i no_spec ≡ get_or xs j no_spec))
      from i lt = (get_or ps i 0, (All-get_or (λ p. p < length xs) ps i 0 (omega (arith, long)) all, get_or-map (λ p. get_or xs p no_spec) ps i 0 no_spec (omega (arith, long))))

      to : (i : ℕ) → i < length xs → (j : ℕ) × ((j < length shuffled) × (get_or xs i no_spec ≡ get_or shuffled j no_spec))
      to i lt =
          let h = has i lt in
          (h.0, (omega (arith, long, h.1), sym (get_or-map (λ p. get_or xs p no_spec) ps h.0 0 no_spec h.1 ∙ ap (λ p. get_or xs p no_spec) (h.2 0))))
