-- Days that no blocker holds, and where a piece stops.
use Rattle.std.proofs.Common.{◌≡◌, ℕ, zero, suc, ◌<◌, ◌≤◌, min, Bool, true, false, cond, ltb, leb, Some, None, Option, sym, refl, ap, ◌∙◌, subst, ⊎_elim, arith}
use Rattle.std.proofs.lemmas.Bool.{cases_lt, cases_Bool, and_parts, and_from, cond-true, ltb-true, lt-ltb, leb-true, le-leb, false≢true}
use Rattle.std.proofs.lemmas.Bool.Decides.{not_from_Decides}
use Rattle.relation.specs.Sets.{Tuple, equal}
use Rattle.relation.specs.Rows.{SpecRow}
use Rattle.relation.proofs.TupleSets.{equal_decides}
use Rattle.source.specs.Meaning.{Meaning, Sound, On}
use Rattle.relation.specs.declared.days.Span.{Span}
use Rattle.except.specs.Blockers.{span, having, blocker, holds?, blocked, sooner, stop}
use Rattle.except.proofs.Pieces.{blocked_decides}

having_row : (t : Tuple) (o : Option SpecRow) (s : Span) → having t o ≡ Some s → (w : SpecRow) × (o ≡ Some w) × (w.tuple ≡ t) × (span w ≡ s)
having_row t None s h = let z : ◌≡◌ {A = ℕ} 0 1 = cc in absurd (omega arith)
having_row t (Some w) s h = from (equal w.tuple t) refl h
  where
    from : (q : Bool) → equal w.tuple t ≡ q → cond q (Some (span w)) None ≡ Some s → (w' : SpecRow) × (Some w ≡ Some w') × (w'.tuple ≡ t) × (span w' ≡ s)
    from true e p = (w, refl, (equal_decides w.tuple t).0 e, cc)
    from false e p = let z : ◌≡◌ {A = ℕ} 0 1 = cc in absurd (omega arith)

module _ (b : Meaning) (t : Tuple) where
  -- the blocker at place p, below n, has the days s
  abbrev pub Blocker : ℕ → ℕ → Span → Type 0
  Blocker n p s = (p < n) × (blocker b t p ≡ Some s)

  row_blocker : (p : ℕ) (w : SpecRow) → b.at p ≡ Some w → w.tuple ≡ t → blocker b t p ≡ Some (span w)
  row_blocker p w at same = ap (having t) at ∙ cond-true (equal w.tuple t) (Some (span w)) None ((equal_decides w.tuple t).1 same)

  pub blocker_period : Sound b → (p : ℕ) (s : Span) → blocker b t p ≡ Some s → s.first < s.end
  blocker_period sb p s e =
      let w = having_row t (b.at p) s e in
      let from : w.0.first ≡ s.first = ap (λ (x : Span). x.first) w.3 in
      let upto : w.0.end ≡ s.end = ap (λ (x : Span). x.end) w.3 in
      omega (arith, (sb.filled p w.0 w.1).period.0)

  -- no blocker holds day d
  abbrev pub Free : ℕ → Type 0
  Free d = (p : ℕ) (s : Span) → Blocker b.count p s → s.first ≤ d → d < s.end → ⊥

  pub free_out : Sound b → (d : ℕ) → Free d → On b d t → ⊥
  free_out sb d f o = f o.place (span o.row) ((sb.filled o.place o.row o.there).below, row_blocker o.place o.row o.there o.same) o.from o.upto

  pub free_in : (d : ℕ) → (On b d t → ⊥) → Free d
  free_in d n p s h lo hi =
      let w = having_row t (b.at p) s h.1 in
      let from : w.0.first ≡ s.first = ap (λ (x : Span). x.first) w.3 in
      let upto : w.0.end ≡ s.end = ap (λ (x : Span). x.end) w.3 in
      n (record { place = p; row = w.0; there = w.1; same = w.2; from = omega arith; upto = omega arith })

  holds_at : (d : ℕ) (o : Option Span) → holds? d o ≡ true → (s : Span) × (o ≡ Some s) × (s.first ≤ d) × (d < s.end)
  holds_at d None h = absurd (false≢true h)
  holds_at d (Some s) h = let both = and_parts (leb s.first d) (ltb d s.end) h in (s, refl, leb-true s.first d both.0, ltb-true d s.end both.1)

  pub free_unblocked : (d : ℕ) → blocked b t d b.count ≡ false → Free d
  free_unblocked d h p s k lo hi =
      not_from_Decides (blocked b t d b.count) (blocked_decides b t d b.count) h
      (p, k.0, ap (holds? d) k.1 ∙ and_from (leb s.first d) (ltb d s.end) (le-leb s.first d lo) (lt-ltb d s.end hi))

  pub unblocked : (d : ℕ) → Free d → blocked b t d b.count ≡ false
  unblocked d f = ⊎_elim
      (λ e. let h = (blocked_decides b t d b.count).0 e in
      let s = holds_at d (blocker b t h.0) h.2 in absurd (f h.0 s.0 (h.1, s.1) s.2 s.3))
      (λ e. e) (cases_Bool (blocked b t d b.count))

  -- ---- where a piece stops

  pub stop_first : (c e n p : ℕ) (s : Span) → Blocker n p s → c < s.first → stop b t c e n ≤ s.first
  stop_first c e zero p s k lt = absurd (omega (arith, k.0))
  stop_first c e (suc n) p s k lt = ⊎_elim
      (λ below. let h = stop_first c e n p s (below, k.1) lt in lower (blocker b t n) h)
      (λ top. let same : n ≡ p = omega (arith, k.0) in
      subst (λ o. sooner c o (stop b t c e n) ≤ s.first) (sym (ap (blocker b t) same ∙ k.1)) (here (ltb c s.first) (lt-ltb c s.first lt)))
      (cases_lt p n)
    where
      here : (q : Bool) → q ≡ true → cond q (min s.first (stop b t c e n)) (stop b t c e n) ≤ s.first
      here true g = omega arith
      here false g = absurd (false≢true g)

      lower : (o : Option Span) → stop b t c e n ≤ s.first → sooner c o (stop b t c e n) ≤ s.first
      lower None h = h
      lower (Some u) h = at (ltb c u.first)
        where
          at : (q : Bool) → cond q (min u.first (stop b t c e n)) (stop b t c e n) ≤ s.first
          at true = omega arith
          at false = h

  pub stop_over : (c d e n : ℕ) → d < e → ((p : ℕ) (s : Span) → Blocker n p s → c < s.first → d < s.first) → d < stop b t c e n
  stop_over c d e zero lt h = lt
  stop_over c d e (suc n) lt h = from (blocker b t n) refl (stop_over c d e n lt (λ p s k. h p s (omega arith, k.1)))
    where
      from : (o : Option Span) → blocker b t n ≡ o → d < stop b t c e n → d < sooner c o (stop b t c e n)
      from None g k = k
      from (Some s) g k = at (ltb c s.first) refl
        where
          at : (q : Bool) → ltb c s.first ≡ q → d < cond q (min s.first (stop b t c e n)) (stop b t c e n)
          at true f = let m = h n s (omega arith, g) (ltb-true c s.first f) in omega arith
          at false f = k
