-- A list is canonical where its rows are periods and each is clear of the later ones; a row more at the end.
use Rattle.std.proofs.Common.{◌≡◌, ◌⊎◌, List, [], ◌∷◌, ◌++◌, sym, ◌∙◌, inl, inr, arith}
use Rattle.std.specs.List.{AllByRecursion as AllOf}
use Rattle.std.proofs.ByRecursion.{All-push}
use Rattle.relation.specs.Lists.{Pairwise}
use Rattle.relation.specs.Sets.{Tuple, TupleSet, Same, has}
use Rattle.relation.specs.Rows.{SpecRow, Period, Share, Meet, Ahead, Coalesced, Listed, Canonical}
use Rattle.relation.proofs.Clear.{Clear, clear, below_irrefl}
use Rattle.relation.proofs.TupleSets.{has_decides}

-- ---- canonical, from periods that are clear of each other

ahead : (r s : SpecRow) → Period r → Clear r s → Ahead r s
ahead r s p (inl b) = inl b
ahead r s p (inr h) = inr (h.0, omega arith)

untouched : (r s : SpecRow) → Period r → Period s → Clear r s → r.tuple ≡ s.tuple → Share r s ⊎ Meet r s → ⊥
untouched r s p q (inl b) e t = below_irrefl r.tuple s.tuple e b
untouched r s p q (inr h) e (inl t) = omega arith
untouched r s p q (inr h) e (inr (inl t)) = omega arith
untouched r s p q (inr h) e (inr (inr t)) = omega arith

all_ahead : (r : SpecRow) (rows : List SpecRow) → Period r → AllOf (Clear r) rows → AllOf (Ahead r) rows
all_ahead r [] p c = tt
all_ahead r (s ∷ rows) p c = (ahead r s p c.0, all_ahead r rows p c.1)

all_untouched : (r : SpecRow) (rows : List SpecRow) → Period r → AllOf Period rows → AllOf (Clear r) rows → AllOf (λ s. r.tuple ≡ s.tuple → Share r s ⊎ Meet r s → ⊥) rows
all_untouched r [] p ps c = tt
all_untouched r (s ∷ rows) p ps c = (untouched r s p ps.0 c.0, all_untouched r rows p ps.1 c.1)

listed : (rows : List SpecRow) → AllOf Period rows → Pairwise Clear rows → Listed rows
listed [] ps cs = tt
listed (r ∷ rows) ps cs = (all_ahead r rows ps.0 cs.0, listed rows ps.1 cs.1)

coalesced : (rows : List SpecRow) → AllOf Period rows → Pairwise Clear rows → Coalesced rows
coalesced [] ps cs = tt
coalesced (r ∷ rows) ps cs = (all_untouched r rows ps.0 ps.1 cs.0, coalesced rows ps.1 cs.1)

pub canonical_from_clear : (rows : List SpecRow) → AllOf Period rows → Pairwise Clear rows → Canonical rows
canonical_from_clear rows ps cs = record { periods = ps; coalesced = coalesced rows ps cs; listed = listed rows ps cs }

-- ---- one row more, as a loop writes them

pairwise_push : {X : Type 0} (R : X → X → Type 0) (xs : List X) (x : X) → Pairwise R xs → AllOf (λ y. R y x) xs → Pairwise R (xs ++ (x ∷ []))
pairwise_push R [] x p h = (tt, tt)
pairwise_push R (y ∷ xs) x p h = (All-push (R y) xs x p.0 h.0, pairwise_push R xs x p.1 h.1)

pub canonical_push : (rows : List SpecRow) (r : SpecRow) → Canonical rows → Period r → AllOf (λ s. Clear s r) rows → Canonical (rows ++ (r ∷ []))
canonical_push rows r c p h = canonical_from_clear (rows ++ (r ∷ [])) (All-push Period rows r c.periods p) (pairwise_push Clear rows r (clear rows c.periods c.coalesced c.listed) h)

-- ---- sets by the test

pub same_from_has : (S U : TupleSet) → ((t : Tuple) → has S t ≡ has U t) → Same S U
same_from_has S U h t = (λ m. (has_decides U t).0 (sym (h t) ∙ (has_decides S t).1 m), λ m. (has_decides S t).0 (h t ∙ (has_decides U t).1 m))
