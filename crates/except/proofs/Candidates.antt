-- The latest candidate up to a day, and the lowest place that has it.
use Rattle.std.proofs.Common.{◌≡◌, ℕ, zero, suc, ◌+◌, ◌<◌, ◌≤◌, true, false, ◌⊎◌, Some, None, Option, sym, refl, ap, ◌∙◌, inl, inr, ⊎_elim, arith}
use Rattle.std.proofs.lemmas.Bool.{cases_lt, cases_Bool, or_cases, eq-eqb, false≢true, true≢false}
use Rattle.relation.specs.Sets.{Tuple}
use Rattle.source.specs.Meaning.{Meaning}
use Rattle.relation.specs.declared.days.Span.{Span}
use Rattle.except.specs.Blockers.{blocker, candidate, is?, repeated}
use Rattle.except.proofs.Pieces.{repeated_decides, is_some, candidate_next, within_from}
use Rattle.except.proofs.FreeDays.{Blocker}

module _ (b : Meaning) (t : Tuple) where
  -- c is the latest candidate up to day d of a row that begins on day f
  pub record Latest (d f n c : ℕ) : Type 0 where
    pub low : f ≤ c
    pub high : c ≤ d
    pub above : (p : ℕ) (s : Span) → Blocker b t n p s → s.end ≤ d → s.end ≤ c
    pub from : (c ≡ f) ⊎ ((p : ℕ) × (s : Span) × Blocker b t n p s × (s.end ≡ c))

  pub latest : (d f n : ℕ) → f ≤ d → (c : ℕ) × Latest d f n c
  latest d f zero le = (f, record { low = omega arith; high = le; above = λ p s k. absurd (omega (arith, k.0)); from = inl refl })
  latest d f (suc n) le = more (blocker b t n) refl (latest d f n le)
    where
      onward : (c : ℕ) → (c ≡ f) ⊎ ((p : ℕ) × (s : Span) × Blocker b t n p s × (s.end ≡ c)) → (c ≡ f) ⊎ ((p : ℕ) × (s : Span) × Blocker b t (suc n) p s × (s.end ≡ c))
      onward c (inl e) = inl e
      onward c (inr k) = inr (k.0, k.1, (omega (arith, k.2.0), k.2.1), k.3)

      -- what holds of the blockers below n, and of the one at n, holds of all
      each : (c m : ℕ) → Latest d f n c → c ≤ m → ((s : Span) → blocker b t n ≡ Some s → s.end ≤ d → s.end ≤ m) → (p : ℕ) (s : Span) → Blocker b t (suc n) p s → s.end ≤ d → s.end ≤ m
      each c m l le here p s k h = ⊎_elim
          (λ below. let g = l.above p s (below, k.1) h in omega arith)
          (λ top. let same : n ≡ p = omega (arith, k.0) in here s (ap (blocker b t) same ∙ k.1) h)
          (cases_lt p n)

      same : (c : ℕ) → Latest d f n c → ((s : Span) → blocker b t n ≡ Some s → s.end ≤ d → s.end ≤ c) → (c : ℕ) × Latest d f (suc n) c
      same c l here = (c, record { low = l.low; high = l.high; above = each c c l (omega arith) here; from = onward c l.from })

      more : (o : Option Span) → blocker b t n ≡ o → (c : ℕ) × Latest d f n c → (c : ℕ) × Latest d f (suc n) c
      more None g l = same l.0 l.1 (λ s e. let z : ◌≡◌ {A = ℕ} 0 1 = cc in absurd (omega arith))
      more (Some s) g l = at (cases_lt d s.end) (cases_lt s.end l.0)
        where
          is : (u : Span) → blocker b t n ≡ Some u → u.end ≡ s.end
          is u e = cc

          at : (d < s.end) ⊎ (s.end ≤ d) → (s.end < l.0) ⊎ (l.0 ≤ s.end) → (c : ℕ) × Latest d f (suc n) c
          at (inl far) k = same l.0 l.1 (λ u e h. let j = is u e in absurd (omega arith))
          at (inr near) (inl k) = same l.0 l.1 (λ u e h. let j = is u e in omega arith)
          at (inr near) (inr k) =
              let low : f ≤ s.end = omega (arith, l.1.low) in
              (s.end, record { low = low; high = near; above = each l.0 s.end l.1 k (λ u e h. let j = is u e in omega arith); from = inr (n, s, (omega arith, g), refl) })

  -- the lowest place with the candidate c
  lowest : (r : Span) (c m : ℕ) → repeated b t r c m ≡ true → (j : ℕ) × (j < m) × (candidate b t r j ≡ Some c) × (repeated b t r c j ≡ false)
  lowest r c zero h = absurd (false≢true h)
  lowest r c (suc m) h = ⊎_elim
      (λ old. let l = lowest r c m old in (l.0, omega (arith, l.1), l.2, l.3))
      (λ new. (m, omega arith, is_some c (candidate b t r m) (⊎_elim (λ e. e) (λ e. absurd (true≢false (sym e ∙ new))) (or_cases (is? c (candidate b t r m)) (repeated b t r c m) h)), new))
      (cases_Bool (repeated b t r c m))

  -- the latest candidate of a row up to a day of the row is the candidate of some place
  pub placed : (r : Span) (d n c : ℕ) → d < r.end → Latest d r.first n c → (j : ℕ) × (j < n + 1) × (candidate b t r j ≡ Some c) × (repeated b t r c j ≡ false)
  placed r d n c lt l = ⊎_elim (λ e. at 0 (omega arith) (ap Some (sym e))) (λ k. later k (cases_lt r.first c)) l.from
    where
      at : (i : ℕ) → i < n + 1 → candidate b t r i ≡ Some c → (j : ℕ) × (j < n + 1) × (candidate b t r j ≡ Some c) × (repeated b t r c j ≡ false)
      at i few e = lowest r c (n + 1) ((repeated_decides b t r c (n + 1)).1 (i, few, ap (is? c) e ∙ eq-eqb c c refl))

      later : (p : ℕ) × (s : Span) × Blocker b t n p s × (s.end ≡ c) → (r.first < c) ⊎ (c ≤ r.first) → (j : ℕ) × (j < n + 1) × (candidate b t r j ≡ Some c) × (repeated b t r c j ≡ false)
      later k (inl lo) = at (k.0 + 1) (omega (arith, k.2.0)) (candidate_next b t r k.0 ∙ is_some c _ (within_from r (blocker b t k.0) k.1 c k.2.1 k.3 lo (omega (arith, l.high))))
      later k (inr hi) = let e : r.first ≡ c = omega (arith, l.low) in at 0 (omega arith) (ap Some e)
