-- No list with the day sets of a coalesced one is shorter: each of its rows holds the first day of at most one row of that.
use Rattle.std.proofs.Common.{◌≡◌, ℕ, ◌<◌, ◌≤◌, ◌⊎◌, List, [], ◌∷◌, length, sym, refl, ◌∙◌, subst, inl, inr, arith}
use Rattle.std.specs.List.{AllByRecursion as AllOf}
use Rattle.relation.specs.Lists.{Any, Pairwise}
use Rattle.relation.specs.Sets.{Tuple}
use Rattle.relation.specs.Rows.{SpecRow, Period, Holds, Share, Meet, Coalesced}
use Rattle.relation.specs.Theorems as theorems
use Rattle.relation.proofs.Held.{In, Agreed, agreed}
use Rattle.relation.proofs.Clear.{apart}
use Rattle.relation.proofs.Pigeons.{all_both, any_with, no_fewer}

abbrev pub Touchless : SpecRow → SpecRow → Type 0
Touchless r s = r.tuple ≡ s.tuple → Share r s ⊎ Meet r s → ⊥

-- no row of its tuple holds the day at which a coalesced row ends
not_by : (r : SpecRow) (rows : List SpecRow) → Period r → AllOf Period rows → AllOf (Touchless r) rows → In rows r.end r.tuple → ⊥
not_by r [] p ps cs h = h
not_by r (s ∷ rows) p ps cs (inl h) = step (apart r s p ps.0 (cs.0 (sym h.0)))
  where
    step : (r.end < s.first) ⊎ (s.end < r.first) → ⊥
    step (inl k) = omega arith
    step (inr k) = omega arith
not_by r (s ∷ rows) p ps cs (inr h) = not_by r rows p ps.1 cs.1 h

not_first : (r s : SpecRow) (rows : List SpecRow) → Period r → Period s → Touchless r s → (In rows s.end s.tuple → ⊥) → In (r ∷ rows) s.end s.tuple → ⊥
not_first r s rows p q c n (inr h) = n h
not_first r s rows p q c n (inl h) = step (apart r s p q (c h.0))
  where
    step : (r.end < s.first) ⊎ (s.end < r.first) → ⊥
    step (inl k) = omega arith
    step (inr k) = omega arith

ended : (rows : List SpecRow) → AllOf Period rows → Coalesced rows → AllOf (λ r. In rows r.end r.tuple → ⊥) rows
ended [] ps cs = tt
ended (r ∷ rows) ps cs = (here, all_both later rows ps.1 (all_both both rows cs.0 (ended rows ps.1 cs.1)))
  where
    here : In (r ∷ rows) r.end r.tuple → ⊥
    here (inl h) = omega arith
    here (inr h) = not_by r rows ps.0 ps.1 cs.0 h

    both : (s : SpecRow) → Touchless r s → (In rows s.end s.tuple → ⊥) → Touchless r s × (In rows s.end s.tuple → ⊥)
    both s c n = (c, n)

    later : (s : SpecRow) → Period s → Touchless r s × (In rows s.end s.tuple → ⊥) → In (r ∷ rows) s.end s.tuple → ⊥
    later s q k = not_first r s rows ps.0 q k.0 k.1

module _ (l m : List SpecRow) (agree : Agreed l m) where
  -- a row of m that holds the first day of r
  abbrev Hits : SpecRow → SpecRow → Type 0
  Hits r p = ((p.tuple ≡ r.tuple) × Holds p r.first) × ((d : ℕ) → Holds p d → In m d p.tuple)

  two : (r s p : SpecRow) → Period s → (In l r.end r.tuple → ⊥) → r.end < s.first → r.tuple ≡ s.tuple → Period r → Hits r p → Hits s p → ⊥
  two r s p q n h e o a b = n ((agree r.end (omega arith) r.tuple).1 (subst (λ t. In m r.end t) a.0.0 (a.1 r.end (omega arith))))

  -- no row of m hits two rows of l
  never_both : (r s : SpecRow) → Period r → Period s → Touchless r s → (In l r.end r.tuple → ⊥) → (In l s.end s.tuple → ⊥) → (p : SpecRow) → Hits r p → Hits s p → ⊥
  never_both r s o q c nr ns p a b = step (apart r s o q (c same))
    where
      same : r.tuple ≡ s.tuple
      same = sym a.0.0 ∙ b.0.0

      step : (r.end < s.first) ⊎ (s.end < r.first) → ⊥
      step (inl h) = two r s p q nr h same o a b
      step (inr h) = two s r p o ns h (sym same) q b a

  abbrev Fit : SpecRow → Type 0
  Fit r = Period r × (In l r.end r.tuple → ⊥)

  pairs : (rows : List SpecRow) → AllOf Fit rows → Coalesced rows → Pairwise (λ r s. (p : SpecRow) → Hits r p → Hits s p → ⊥) rows
  pairs [] fs cs = tt
  pairs (r ∷ rows) fs cs = (all_both later rows fs.1 cs.0, pairs rows fs.1 cs.1)
    where
      later : (s : SpecRow) → Fit s → Touchless r s → (p : SpecRow) → Hits r p → Hits s p → ⊥
      later s f c = never_both r s fs.0.0 f.0 c fs.0.1 f.1

  -- each row of m is within the sets of m
  within : (rows : List SpecRow) → ((d : ℕ) (t : Tuple) → In rows d t → In m d t) → AllOf (λ p. (d : ℕ) → Holds p d → In m d p.tuple) rows
  within [] f = tt
  within (p ∷ rows) f = (λ d h. f d p.tuple (inl (refl, h)), within rows λ d t h. f d t (inr h))

  hit : (rows : List SpecRow) → AllOf Period rows → ((d : ℕ) (t : Tuple) → In rows d t → In l d t) → AllOf (λ r. Any (Hits r) m) rows
  hit [] ps f = tt
  hit (r ∷ rows) ps f = (any_with found m (within m (λ d t h. h)) held, hit rows ps.1 λ d t h. f d t (inr h))
    where
      found : (p : SpecRow) → ((d : ℕ) → Holds p d → In m d p.tuple) → (p.tuple ≡ r.tuple) × Holds p r.first → Hits r p
      found p w h = (h, w)

      held : In m r.first r.tuple
      held = (agree r.first (omega arith) r.tuple).0 (f r.first r.tuple (inl (refl, omega arith)))

  few : AllOf Period l → Coalesced l → length l ≤ length m
  few ps cs = no_fewer Hits l m (hit l ps (λ d t h. h)) (pairs l (all_both (λ r p n. (p, n)) l ps (ended l ps cs)) cs)

pub fewest : theorems.Fewest
fewest l m c ps a = few l m (agreed l m a) c.periods c.coalesced
