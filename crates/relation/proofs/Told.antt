-- A canonical list is told by its day sets.
use Rattle.std.proofs.Common.{◌≡◌, ℕ, ◌<◌, ◌≤◌, ◌⊎◌, List, [], ◌∷◌, sym, refl, ◌∙◌, subst, ap₂, inl, inr, arith}
use Rattle.std.specs.List.{AllByRecursion as AllOf}
use Rattle.relation.specs.Lists.{Pairwise, Member}
use Rattle.relation.specs.Sets.{Tuple, Below}
use Rattle.relation.specs.Rows.{SpecRow, Period, on}
use Rattle.relation.specs.Theorems as theorems
use Rattle.relation.proofs.Held.{In, Agreed, agreed}
use Rattle.relation.proofs.Clear.{Clear, clear, behind, below_asym, below_irrefl}

-- the first row begins with the least tuple and day that the rows hold
least : (s : SpecRow) (rows : List SpecRow) (d : ℕ) (t : Tuple) → Period s → AllOf (Clear s) rows → In (s ∷ rows) d t → Below s.tuple t ⊎ ((s.tuple ≡ t) × (s.first ≤ d))
least s rows d t p c (inl h) = inr (h.0, h.1.0)
least s rows d t p c (inr h) = step (behind s rows d t c h)
  where
    step : Below s.tuple t ⊎ ((s.tuple ≡ t) × (s.end < d)) → Below s.tuple t ⊎ ((s.tuple ≡ t) × (s.first ≤ d))
    step (inl b) = inl b
    step (inr e) = inr (e.0, omega arith)

starts : (r s : SpecRow) → Below s.tuple r.tuple ⊎ ((s.tuple ≡ r.tuple) × (s.first ≤ r.first)) → Below r.tuple s.tuple ⊎ ((r.tuple ≡ s.tuple) × (r.first ≤ s.first)) → (r.tuple ≡ s.tuple) × (r.first ≡ s.first)
starts r s (inl b) (inl c) = absurd (below_asym s.tuple r.tuple b c)
starts r s (inl b) (inr e) = absurd (below_irrefl s.tuple r.tuple (sym e.0) b)
starts r s (inr e) (inl c) = absurd (below_irrefl r.tuple s.tuple (sym e.0) c)
starts r s (inr e) (inr f) = (f.0, omega arith)

-- the row r ends no sooner than s, since nothing holds its end
no_sooner : (r s : SpecRow) (rows : List SpecRow) → Period r → AllOf (Clear r) rows → r.tuple ≡ s.tuple → (In (r ∷ rows) r.end s.tuple → ⊥)
no_sooner r s rows p c e (inl h) = omega arith
no_sooner r s rows p c e (inr h) = step (behind r rows r.end s.tuple c h)
  where
    step : Below r.tuple s.tuple ⊎ ((r.tuple ≡ s.tuple) × (r.end < r.end)) → ⊥
    step (inl b) = below_irrefl r.tuple s.tuple e b
    step (inr g) = omega arith

-- what the rows after the first hold
rest : (r s : SpecRow) (rows others : List SpecRow) (d : ℕ) (t : Tuple) → r.tuple ≡ s.tuple → r.end ≡ s.end → AllOf (Clear r) rows → In rows d t → In (s ∷ others) d t → In others d t
rest r s rows others d t e f c h (inr k) = k
rest r s rows others d t e f c h (inl k) = step (behind r rows d t c h)
  where
    step : Below r.tuple t ⊎ ((r.tuple ≡ t) × (r.end < d)) → In others d t
    step (inl b) = absurd (below_irrefl r.tuple t (e ∙ k.0) b)
    step (inr g) = absurd (omega arith)

same : (l m : List SpecRow) → AllOf Period l → Pairwise Clear l → AllOf Period m → Pairwise Clear m → Agreed l m → l ≡ m
same [] [] pl cl pm cm a = refl
same [] (s ∷ m) pl cl pm cm a = absurd ((a s.first (omega arith) s.tuple).1 (inl (refl, omega arith)))
same (r ∷ l) [] pl cl pm cm a = absurd ((a r.first (omega arith) r.tuple).0 (inl (refl, omega arith)))
same (r ∷ l) (s ∷ m) pl cl pm cm a =
    let start = starts r s (least s m r.first r.tuple pm.0 cm.0 ((a r.first (omega arith) r.tuple).0 (inl (refl, omega arith)))) (least r l s.first s.tuple pl.0 cl.0 ((a s.first (omega arith) s.tuple).1 (inl (refl, omega arith)))) in
    let ends : r.end ≡ s.end = level (λ h. no_sooner r s l pl.0 cl.0 start.0 ((a r.end (omega arith) s.tuple).1 (inl (refl, omega arith)))) (λ h. no_sooner s r m pm.0 cm.0 (sym start.0) ((a s.end (omega arith) r.tuple).0 (inl (refl, omega arith)))) in
    ap₂ ◌∷◌ (λ i. record { tuple = start.0 i; first = start.1 i; end = ends i })
    (same l m pl.1 cl.1 pm.1 cm.1 λ d h t. (λ k. rest r s l m d t start.0 ends cl.0 k ((a d h t).0 (inr k)), λ k. rest s r m l d t (sym start.0) (sym ends) cm.0 k ((a d h t).1 (inr k))))
  where
    level : (r.end < s.end → ⊥) → (s.end < r.end → ⊥) → r.end ≡ s.end
    level h k = omega arith

pub unique : theorems.Unique
unique l m cl cm =
    let told = same l m cl.periods (clear l cl.periods cl.coalesced cl.listed) cm.periods (clear m cm.periods cm.coalesced cm.listed) in
    (λ a. told (agreed l m a), λ e d h t. (subst (λ x. Member (on x d) t) e, subst (λ x. Member (on x d) t) (sym e)))

pub one_list : theorems.OneList
one_list l m f a b = (unique l m a.canonical b.canonical).0 λ d h t. (λ x. (b.sets d h t).1 ((a.sets d h t).0 x), λ x. (a.sets d h t).1 ((b.sets d h t).0 x))
