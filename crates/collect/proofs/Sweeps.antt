-- One sweep over rising rows lists their day sets.
use Rattle.std.proofs.Common.{◌≡◌, ℕ, ◌<◌, ◌≤◌, max, Bool, true, false, cond, ◌&&◌, leb, ◌⊎◌, ◌↔◌, List, [], ◌∷◌, Decides, sym, ◌∙◌, subst, inl, inr, arith}
use Rattle.std.specs.Cmp.{int_cmp_total}
use Rattle.std.specs.List.{AllByRecursion as AllOf}
use Rattle.std.proofs.lemmas.Bool.{cases_lt, cases_Bool, both_ways, cond_both, leb-true, le-leb}
use Rattle.std.proofs.lemmas.Bool.Decides.{Decides-and}
use Rattle.relation.specs.Lists.{Pairwise}
use Rattle.relation.specs.Sets.{Tuple, Below, equal}
use Rattle.relation.specs.Rows.{SpecRow, Period, on, Lists}
use Rattle.relation.proofs.Held.{In, day_set}
use Rattle.relation.proofs.Clear.{Clear, below_irrefl}
use Rattle.relation.proofs.FromClear.{canonical_from_clear}
use Rattle.relation.proofs.TupleSets.{equal_decides}
use Rattle.std.specs.Cmp.Lexicographic.{lists_total}

abbrev pub Rising : SpecRow → SpecRow → Type 0
Rising r s = Below r.tuple s.tuple ⊎ ((r.tuple ≡ s.tuple) × (r.first ≤ s.first))

abbrev pub joins : SpecRow → SpecRow → Bool
joins r s = equal r.tuple s.tuple && leb s.first r.end

abbrev pub grown : SpecRow → SpecRow → SpecRow
grown r s = record { tuple = r.tuple; first = r.first; end = max r.end s.end }

-- r is the row that is open, behind it come the rows
abbrev pub sweep : SpecRow → List SpecRow → List SpecRow
sweep r [] = r ∷ []
sweep r (s ∷ rows) = cond (joins r s) (sweep (grown r s) rows) (r ∷ sweep s rows)

pub joins_decides : (r s : SpecRow) → Decides (joins r s) ((r.tuple ≡ s.tuple) × (s.first ≤ r.end))
joins_decides r s = Decides-and (equal r.tuple s.tuple) (leb s.first r.end) (equal_decides r.tuple s.tuple) (leb-true s.first r.end, le-leb s.first r.end)

pub joins_not : (r s : SpecRow) → (r.tuple ≡ s.tuple → s.first ≤ r.end → ⊥) → joins r s ≡ false
joins_not r s n = step (cases_Bool (joins r s))
  where
    step : (joins r s ≡ true) ⊎ (joins r s ≡ false) → joins r s ≡ false
    step (inl e) = absurd (n ((joins_decides r s).0 e).0 ((joins_decides r s).0 e).1)
    step (inr e) = e

-- tuples and first days come from the rows
pub sweep_all : (P : Tuple → ℕ → Type 0) (r : SpecRow) (rows : List SpecRow) → AllOf (λ x. P x.tuple x.first) (r ∷ rows) → AllOf (λ x. P x.tuple x.first) (sweep r rows)
sweep_all P r [] h = h
sweep_all P r (s ∷ rows) h =
    cond_both (joins r s) (sweep (grown r s) rows) (r ∷ sweep s rows) (λ l. AllOf (λ x. P x.tuple x.first) l) (λ e. sweep_all P (grown r s) rows (h.0, h.1.1)) λ e. (h.0, sweep_all P s rows h.1)

sweep_periods : (r : SpecRow) (rows : List SpecRow) → AllOf Period (r ∷ rows) → AllOf Period (sweep r rows)
sweep_periods r [] h = h
sweep_periods r (s ∷ rows) h =
    cond_both (joins r s) (sweep (grown r s) rows) (r ∷ sweep s rows) (λ l. AllOf Period l) (λ e. sweep_periods (grown r s) rows (omega arith, h.1.1)) λ e. (h.0, sweep_periods s rows h.1)

-- ---- the rows are clear of each other

clear_next : (r s : SpecRow) → Rising r s → joins r s ≡ false → Clear r s
clear_next r s (inl b) n = inl b
clear_next r s (inr e) n = step (cases_lt r.end s.first)
  where
    step : (r.end < s.first) ⊎ (s.first ≤ r.end) → Clear r s
    step (inl h) = inr (e.0, h)
    step (inr h) = absurd (both_ways (joins r s) n ((joins_decides r s).1 (e.0, h)))

clear_on : (r s x : SpecRow) → Clear r s → Rising s x → Clear r x
clear_on r s x (inl b) (inl c) = inl ((lists_total int_cmp_total).trans r.tuple s.tuple x.tuple b c)
clear_on r s x (inl b) (inr f) = inl (subst (λ t. Below r.tuple t) f.0 b)
clear_on r s x (inr e) (inl c) = inl (subst (λ t. Below t x.tuple) (sym e.0) c)
clear_on r s x (inr e) (inr f) = inr (e.0 ∙ f.0, omega arith)

clear_all : (r s : SpecRow) (rows : List SpecRow) → Clear r s → AllOf (Rising s) rows → AllOf (Clear r) rows
clear_all r s [] c h = tt
clear_all r s (x ∷ rows) c h = (clear_on r s x c h.0, clear_all r s rows c h.1)

sweep_clear : (r : SpecRow) (rows : List SpecRow) → Pairwise Rising (r ∷ rows) → Pairwise Clear (sweep r rows)
sweep_clear r [] h = (tt, tt)
sweep_clear r (s ∷ rows) h =
    cond_both (joins r s) (sweep (grown r s) rows) (r ∷ sweep s rows) (λ l. Pairwise Clear l) (λ e. sweep_clear (grown r s) rows (h.0.1, h.1.1))
    λ e. let c : Clear r s = clear_next r s h.0.0 e in (sweep_all (λ t f. Below r.tuple t ⊎ ((r.tuple ≡ t) × (r.end < f))) s rows (c, clear_all r s rows c h.1.0), sweep_clear s rows h.1)

-- ---- the day sets stay

grown_in : (r s : SpecRow) (rows : List SpecRow) (d : ℕ) (t : Tuple) → Rising r s → r.tuple ≡ s.tuple → s.first ≤ r.end → In (grown r s ∷ rows) d t ↔ In (r ∷ s ∷ rows) d t
grown_in r s rows d t h e l = (there, back h)
  where
    there : In (grown r s ∷ rows) d t → In (r ∷ s ∷ rows) d t
    there (inr k) = inr (inr k)
    there (inl k) = step (cases_lt d r.end)
      where
        step : (d < r.end) ⊎ (r.end ≤ d) → In (r ∷ s ∷ rows) d t
        step (inl m) = inl (k.0, omega arith)
        step (inr m) = inr (inl (sym e ∙ k.0, omega arith))

    back : Rising r s → In (r ∷ s ∷ rows) d t → In (grown r s ∷ rows) d t
    back x (inl k) = inl (k.0, omega arith)
    back x (inr (inr k)) = inr k
    back (inl b) (inr (inl k)) = absurd (below_irrefl r.tuple s.tuple e b)
    back (inr f) (inr (inl k)) = inl (e ∙ k.0, omega arith)

first_in : (r : SpecRow) (l m : List SpecRow) (d : ℕ) (t : Tuple) → (In l d t ↔ In m d t) → In (r ∷ l) d t ↔ In (r ∷ m) d t
first_in r l m d t h = (under h.0, under h.1)
  where
    under : {A B C : Type 0} → (B → C) → A ⊎ B → A ⊎ C
    under f (inl a) = inl a
    under f (inr b) = inr (f b)

sweep_in : (r : SpecRow) (rows : List SpecRow) (d : ℕ) (t : Tuple) → Pairwise Rising (r ∷ rows) → In (sweep r rows) d t ↔ In (r ∷ rows) d t
sweep_in r [] d t h = (λ i. i, λ i. i)
sweep_in r (s ∷ rows) d t h =
    cond_both (joins r s) (sweep (grown r s) rows) (r ∷ sweep s rows) (λ l. In l d t ↔ In (r ∷ s ∷ rows) d t)
    (λ e. let j = (joins_decides r s).0 e in let g = grown_in r s rows d t h.0.0 j.0 j.1 in let k = sweep_in (grown r s) rows d t (h.0.1, h.1.1) in (λ i. g.0 (k.0 i), λ i. k.1 (g.1 i)))
    λ e. first_in r (sweep s rows) (s ∷ rows) d t (sweep_in s rows d t h.1)

pub sweep_lists : (r : SpecRow) (rows : List SpecRow) → AllOf Period (r ∷ rows) → Pairwise Rising (r ∷ rows) → Lists (sweep r rows) (on (r ∷ rows))
sweep_lists r rows ps h = record {
  canonical = canonical_from_clear (sweep r rows) (sweep_periods r rows ps) (sweep_clear r rows h);
  sets = λ d l t. let a = day_set (sweep r rows) d t in let b = day_set (r ∷ rows) d t in let c = sweep_in r rows d t h in (λ m. b.1 (c.0 (a.0 m)), λ m. a.1 (c.1 (b.0 m)));
}
