-- One scan over the blockers tells whether a piece begins on its candidate, and where it ends.
use Rattle.std.proofs.Common.{◌≡◌, ℕ, zero, suc, ◌+◌, ◌-◌, ◌<◌, ◌≤◌, Bool, true, false, cond, ◌&&◌, ◌||◌, eqb, ltb, leb, ◌⊎◌, Some, None, Decides, Option, sym, refl, ap, ◌∙◌, inl, inr, ⊎_elim, arith}
use Rattle.std.proofs.lemmas.Bool.{or_cases, or_left, or_right, and_parts, and_from, ltb-true, lt-ltb, eqb-true, eq-eqb, ne_eqb, cond-true, cond-false, false≢true}
use Rattle.std.proofs.lemmas.Bool.Decides.{same_from_decides, Decides-or, Decides-like, Decides-below_or}
use Rattle.relation.specs.Sets.{Tuple}
use Rattle.source.specs.Meaning.{Meaning}
use Rattle.relation.specs.declared.days.Span.{Span}
use Rattle.except.specs.Blockers.{blocker, within, candidate, holds?, blocked, is?, repeated, bars?, barred, stop, scanned, piece_from, piece}
use Rattle.except.specs.Sounds.{within_inside}
use Rattle.except.proofs.Scanned.{barred_decides}

pub blocked_decides : (b : Meaning) (t : Tuple) (d n : ℕ) → Decides (blocked b t d n) ((p : ℕ) × (p < n) × (holds? d (blocker b t p) ≡ true))
blocked_decides b t d = Decides-below_or (λ p. holds? d (blocker b t p)) (λ p. holds? d (blocker b t p) ≡ true) (blocked b t d) (λ p. (λ e. e, λ e. e)) refl (λ _. refl)

pub repeated_decides : (b : Meaning) (t : Tuple) (r : Span) (c j : ℕ) → Decides (repeated b t r c j) ((i : ℕ) × (i < j) × (is? c (candidate b t r i) ≡ true))
repeated_decides b t r c = Decides-below_or (λ i. is? c (candidate b t r i)) (λ i. is? c (candidate b t r i) ≡ true) (repeated b t r c) (λ i. (λ e. e, λ e. e)) refl (λ _. refl)

pub is_some : (c : ℕ) (o : Option ℕ) → is? c o ≡ true → o ≡ Some c
is_some c None h = absurd (false≢true h)
is_some c (Some d) h = ap Some (sym (eqb-true c d h))

-- a blocker that bars
bars_cases : (c : ℕ) (lower : Bool) (o : Option Span) → bars? c lower o ≡ true → (holds? c o ≡ true) ⊎ ((lower ≡ true) × (s : Span) × (o ≡ Some s) × (s.end ≡ c))
bars_cases c lower None h = absurd (false≢true h)
bars_cases c lower (Some s) h = ⊎_elim (λ e. inl e)
    (λ e. let both = and_parts lower (eqb s.end c) e in inr (both.0, s, refl, eqb-true s.end c both.1))
    (or_cases (leb s.first c && ltb c s.end) (lower && eqb s.end c) h)

holds_bars : (c : ℕ) (lower : Bool) (o : Option Span) → holds? c o ≡ true → bars? c lower o ≡ true
holds_bars c lower None h = h
holds_bars c lower (Some s) h = or_left (leb s.first c && ltb c s.end) (lower && eqb s.end c) h

-- a lower blocker that ends inside the row on c has the candidate c
pub within_from : (r : Span) (o : Option Span) (s : Span) (c : ℕ) → o ≡ Some s → s.end ≡ c → r.first < c → c < r.end → is? c (within r o) ≡ true
within_from r o s c e f lo hi =
    let in_first : ltb r.first s.end ≡ true = lt-ltb r.first s.end (omega arith) in
    let in_end : ltb s.end r.end ≡ true = lt-ltb s.end r.end (omega arith) in
    ap (λ x. is? c (within r x)) e ∙ ap (is? c) (cond-true (ltb r.first s.end && ltb s.end r.end) _ _ (and_from _ _ in_first in_end)) ∙ eq-eqb c s.end (sym f)

within_bars : (r : Span) (o : Option Span) (c : ℕ) → within r o ≡ Some c → bars? c true o ≡ true
within_bars r None c h = let z : ◌≡◌ {A = ℕ} 0 1 = cc in absurd (omega arith)
within_bars r (Some s) c h = or_right (leb s.first c && ltb c s.end) (eqb s.end c) (eq-eqb s.end c (from (ltb r.first s.end && ltb s.end r.end) h))
  where
    from : (q : Bool) → cond q (Some s.end) None ≡ Some c → s.end ≡ c
    from true p = cc
    from false p = let z : ◌≡◌ {A = ℕ} 0 1 = cc in absurd (omega arith)

module _ (b : Meaning) (t : Tuple) (r : Span) where
  pub candidate_later : (j : ℕ) → 0 < j → candidate b t r j ≡ within r (blocker b t (j - 1))
  candidate_later j lt = cond-false (eqb j 0) _ _ (ne_eqb j 0 (λ e. omega arith))

  pub candidate_next : (p : ℕ) → candidate b t r (p + 1) ≡ within r (blocker b t p)
  candidate_next p = let back : p + 1 - 1 ≡ p = omega arith in candidate_later (p + 1) (omega arith) ∙ ap (λ q. within r (blocker b t q)) back

  -- ---- at the candidate c of place j

  module _ (c j n : ℕ) (begins : candidate b t r j ≡ Some c) (few : j ≤ n) where
    inside : 0 < j → (r.first < c) × (c < r.end)
    inside lt = within_inside r (blocker b t (j - 1)) c (sym (candidate_later j lt) ∙ begins)

    abbrev Bars : Type 0
    Bars = (p : ℕ) × (p < n) × (bars? c (ltb (p + 1) j) (blocker b t p) ≡ true)

    abbrev Held : Type 0
    Held = (p : ℕ) × (p < n) × (holds? c (blocker b t p) ≡ true)

    abbrev Had : Type 0
    Had = (i : ℕ) × (i < j) × (is? c (candidate b t r i) ≡ true)

    apart : Bars → Held ⊎ Had
    apart h = ⊎_elim (λ e. inl (h.0, h.1, e))
        (λ e. let lt = ltb-true (h.0 + 1) j e.0 in
        let i = inside (omega arith) in
        inr (h.0 + 1, lt, ap (is? c) (candidate_next h.0) ∙ within_from r (blocker b t h.0) e.1 c e.2 e.3 i.0 i.1))
        (bars_cases c (ltb (h.0 + 1) j) (blocker b t h.0) h.2)

    lower : (i : ℕ) → i < j → candidate b t r i ≡ Some c → Bars
    lower zero lt e = let f : r.first ≡ c = cc in let i = inside lt in absurd (omega arith)
    lower (suc p) lt e =
        let up : p + 1 ≡ suc p = omega arith in
        let same = lt-ltb (p + 1) j (omega arith) in
        (p, omega arith, ap (λ q. bars? c q (blocker b t p)) same ∙ within_bars r (blocker b t p) c (sym (candidate_next p) ∙ ap (candidate b t r) up ∙ e))

    together : Held ⊎ Had → Bars
    together (inl h) = (h.0, h.1, holds_bars c (ltb (h.0 + 1) j) (blocker b t h.0) h.2)
    together (inr h) = lower h.0 h.1 (is_some c (candidate b t r h.0) h.2)

    pub barred_is : barred b t c j n ≡ (blocked b t c n || repeated b t r c j)
    barred_is = same_from_decides (barred b t c j n) (blocked b t c n || repeated b t r c j) (barred_decides b t c j n)
        (Decides-like (blocked b t c n || repeated b t r c j) together apart (Decides-or (blocked b t c n) (repeated b t r c j) (blocked_decides b t c n) (repeated_decides b t r c j)))

-- the piece from day c on, up to the end if there is one
abbrev pub closed : ℕ → Option ℕ → Option Span
closed c None = None
closed c (Some e) = Some (record { first = c; end = e })

pub piece_is : (b : Meaning) (t : Tuple) (r : Span) (c j : ℕ) (o : Option ℕ) → j ≤ b.count → candidate b t r j ≡ Some c → scanned b t c r.end j ≡ o → piece b t r j ≡ closed c o
piece_is b t r c j o few begins scan =
    ap (piece_from b t r j) begins ∙ either (blocked b t c b.count || repeated b t r c j)
    ∙ ap (λ q. closed c (cond q None (Some (stop b t c r.end b.count)))) (sym (barred_is b t r c j b.count begins few)) ∙ ap (closed c) scan
  where
    either : (q : Bool) → cond q None (Some (record { first = c; end = stop b t c r.end b.count })) ≡ closed c (cond q None (Some (stop b t c r.end b.count)))
    either true = refl
    either false = refl
