-- What listing order and coalescing say together of two rows: the later has a greater tuple, or begins after a day between.
use Rattle.std.proofs.Common.{◌≡◌, ℕ, ◌<◌, max, ◌⊎◌, List, [], ◌∷◌, sym, ap, ◌∙◌, subst, inl, inr, true≢false, arith}
use Rattle.std.specs.List.{AllByRecursion as AllOf}
use Rattle.std.specs.Ordering.{is_lt, ordering_reverse}
use Rattle.std.specs.Cmp.{int_cmp_total}
use Rattle.std.proofs.lemmas.Bool.{cases_order}
use Rattle.relation.specs.Lists.{Pairwise}
use Rattle.relation.specs.Sets.{Tuple, Below}
use Rattle.relation.specs.Rows.{SpecRow, Period, Share, Meet, Ahead, Coalesced, Listed}
use Rattle.relation.proofs.Held.{In}
use Rattle.std.specs.Cmp.Lexicographic.{lists_total}

pub below_asym : (s t : Tuple) → Below s t → Below t s → ⊥
below_asym s t h k = absurd (true≢false (ap is_lt (sym h ∙ (lists_total int_cmp_total).antisymm s t ∙ ap ordering_reverse k)))

pub below_irrefl : (s t : Tuple) → s ≡ t → Below s t → ⊥
below_irrefl s t e h = let g : Below t t = subst (λ x. Below x t) e h in below_asym t t g g

-- rows that neither share a day nor meet have a day between them
pub apart : (r s : SpecRow) → Period r → Period s → (Share r s ⊎ Meet r s → ⊥) → (r.end < s.first) ⊎ (s.end < r.first)
apart r s p q n = step (cases_order r.end s.first) (cases_order s.end r.first)
  where
    step : (r.end ≡ s.first) ⊎ ((r.end < s.first) ⊎ (s.first < r.end)) → (s.end ≡ r.first) ⊎ ((s.end < r.first) ⊎ (r.first < s.end)) → (r.end < s.first) ⊎ (s.end < r.first)
    step (inl e) y = absurd (n (inr (inl e)))
    step (inr (inl h)) y = inl h
    step (inr (inr h)) (inl e) = absurd (n (inr (inr e)))
    step (inr (inr h)) (inr (inl k)) = inr k
    step (inr (inr h)) (inr (inr k)) = absurd (n (inl (max r.first s.first, omega arith)))

abbrev pub Clear : SpecRow → SpecRow → Type 0
Clear r s = Below r.tuple s.tuple ⊎ ((r.tuple ≡ s.tuple) × (r.end < s.first))

clear_two : (r s : SpecRow) → Period r → Period s → (r.tuple ≡ s.tuple → Share r s ⊎ Meet r s → ⊥) → Ahead r s → Clear r s
clear_two r s p q n (inl b) = inl b
clear_two r s p q n (inr a) = step (apart r s p q (n a.0))
  where
    step : (r.end < s.first) ⊎ (s.end < r.first) → Clear r s
    step (inl h) = inr (a.0, h)
    step (inr h) = absurd (omega arith)

clear_all : (r : SpecRow) (rows : List SpecRow) → Period r → AllOf Period rows → AllOf (λ s. r.tuple ≡ s.tuple → Share r s ⊎ Meet r s → ⊥) rows → AllOf (Ahead r) rows → AllOf (Clear r) rows
clear_all r [] p ps cs ls = tt
clear_all r (s ∷ rows) p ps cs ls = (clear_two r s p ps.0 cs.0 ls.0, clear_all r rows p ps.1 cs.1 ls.1)

pub clear : (rows : List SpecRow) → AllOf Period rows → Coalesced rows → Listed rows → Pairwise Clear rows
clear [] ps cs ls = tt
clear (r ∷ rows) ps cs ls = (clear_all r rows ps.0 ps.1 cs.0 ls.0, clear rows ps.1 cs.1 ls.1)

-- what the later rows hold lies behind the row r
pub behind : (r : SpecRow) (rows : List SpecRow) (d : ℕ) (t : Tuple) → AllOf (Clear r) rows → In rows d t → Below r.tuple t ⊎ ((r.tuple ≡ t) × (r.end < d))
behind r [] d t c h = absurd h
behind r (s ∷ rows) d t c (inl h) = step c.0
  where
    step : Clear r s → Below r.tuple t ⊎ ((r.tuple ≡ t) × (r.end < d))
    step (inl b) = inl (subst (λ x. Below r.tuple x) h.0 b)
    step (inr e) = inr (e.0 ∙ h.0, omega arith)
behind r (s ∷ rows) d t c (inr h) = behind r rows d t c.1 h
