-- The line that the check answers is the first bad one, or that of a load that is not ended.
use Rattle.std.proofs.Common.{◌≡◌, ℕ, suc, ◌+◌, ◌-◌, ◌<◌, false, ltb, ◌⊎◌, List, [], ◌∷◌, ◌++◌, length, take, Some, None, Ok, Err, codes, Option, Result, sym, refl, ap, ◌∙◌, subst, inl, inr, ⊎_elim, arith, MatchResult}
use Rattle.std.specs.List.{AllByRecursion as AllOf}
use Rattle.std.specs.Option.{option_map}
use Rattle.std.proofs.lemmas.Bool.{or_cases, or_parts, ltb-true, ltb-false, cases_Bool}
use Rattle.relation.specs.declared.kinds.Kind.{Kind}
use Rattle.relation.specs.declared.refusals.Refusal.{Refusal}
use Rattle.words.specs.Lines.{lines}
use Rattle.words.specs.Rest.{texts}
use Rattle.takers.specs.Take.{Text, ◌then◌}
use Rattle.words.specs.Words.{words}
use Rattle.std.proofs.lemmas.Option.{same_Some}
use Rattle.takers.proofs.Options.{absent, then_some, then_is}
use Rattle.grammar.specs.Meaning.{Line, skip, load, row, end, drop, show, query}
use Rattle.grammar.proofs.Reading.{line_read, line_written}
use Rattle.script.specs.Faults.{most_bytes, most_lines, said, stands, step, follow, fault, refusal}
use Rattle.script.specs.Scripts.{Says, Script, Begins, FirstBad, Unended, WrongBy, Refused}
use Rattle.script.proofs.Whole.{lawful, no_fault_in, too_long, size_refusal, line_refusal, refused_size, refused_line, accepted, admitted}

-- where the lines ts lead from o, if each may stand where it does
abbrev reach : ℕ → Option ℕ → List Text → Option (Option ℕ)
reach n o [] = Some o
reach n o (t ∷ ts) = step n o t then (λ p. reach (n + 1) p ts)

-- ---- the lines that begin a script

goes_on : (n : ℕ) (o p : Option ℕ) (ts us : List Text) → reach n o ts ≡ Some p → (m : ℕ) × (fault n o (ts ++ us) ≡ fault m p us)
goes_on n o p [] us e = (n, ap (λ q. fault n q us) (same_Some o p e))
goes_on n o p (t ∷ ts) us e =
    let s = then_some (step n o t) (λ q. reach (n + 1) q ts) p e in
    let r = goes_on (n + 1) s.0 p ts us s.2 in
    (r.0, ap (λ q. follow n q (λ p. fault (n + 1) p (ts ++ us))) s.1 ∙ r.1)

stops : (n : ℕ) (o : Option ℕ) (ts us : List Text) → reach n o ts ≡ None → fault n o (ts ++ us) ≡ None → ⊥
stops n o [] us e f = absent o (sym e)
stops n o (t ∷ ts) us e f = by_step (λ p g h. stops (n + 1) p ts us g h) (step n o t) refl e f
  where
    by_step : ((p : Option ℕ) → reach (n + 1) p ts ≡ None → fault (n + 1) p (ts ++ us) ≡ None → ⊥) → (q : Option (Option ℕ)) → step n o t ≡ q → (q then (λ p. reach (n + 1) p ts)) ≡ None → follow n q (λ p. fault (n + 1) p (ts ++ us)) ≡ None → ⊥
    by_step go None w e f = absent n (sym f)
    by_step go (Some p) w e f = go p e f

begins : (ts : List Text) (p : Option ℕ) → reach 1 None ts ≡ Some p → Begins ts
begins ts None e = let g = goes_on 1 None None ts [] e in ([], lawful (ts ++ []) g.1)
begins ts (Some k) e = let g = goes_on 1 None (Some k) ts (codes "end" ∷ []) e in (codes "end" ∷ [], lawful (ts ++ codes "end" ∷ []) g.1)

begins_not : (ts : List Text) → reach 1 None ts ≡ None → Begins ts → ⊥
begins_not ts e b = stops 1 None ts b.0 e (no_fault_in (ts ++ b.0) b.1)

-- ---- which line it is

abbrev Stuck : ℕ → Option ℕ → List Text → ℕ → Type 0
Stuck n o ts m = (k : ℕ) × (k < length ts) × (m ≡ n + k) × ((p : Option ℕ) × (reach n o (take k ts) ≡ Some p)) × (reach n o (take (suc k) ts) ≡ None)

which : (n : ℕ) (o : Option ℕ) (ts : List Text) (m : ℕ) → fault n o ts ≡ Some m → Stuck n o ts m ⊎ (reach n o ts ≡ Some (Some m))
which n None [] m e = absent m e
which n (Some k) [] m e = inr (ap (λ j. Some (Some j)) (same_Some k m e))
which n o (t ∷ ts) m e = by_step (λ p g. which (n + 1) p ts m g) (step n o t) refl e
  where
    by_step : ((p : Option ℕ) → fault (n + 1) p ts ≡ Some m → Stuck (n + 1) p ts m ⊎ (reach (n + 1) p ts ≡ Some (Some m))) → (q : Option (Option ℕ)) → step n o t ≡ q → follow n q (λ p. fault (n + 1) p ts) ≡ Some m → Stuck n o (t ∷ ts) m ⊎ (reach n o (t ∷ ts) ≡ Some (Some m))
    by_step go None w e =
        let same = same_Some n m e in
        inl (0, omega arith, omega arith, (o, refl), ap (λ q. q then (λ p. reach (n + 1) p [])) w)
    by_step go (Some p) w e =
        ⊎_elim
        (λ s.
        let at = s.2 in
        let lt = s.1 in
        inl (suc s.0, omega arith, omega arith, (s.3.0, then_is (step n o t) (λ p. reach (n + 1) p (take s.0 ts)) p w ∙ s.3.1), then_is (step n o t) (λ p. reach (n + 1) p (take (suc s.0) ts)) p w ∙ s.4))
        (λ r. inr (then_is (step n o t) (λ p. reach (n + 1) p ts) p w ∙ r))
        (go p e)

first_bad : (ts : List Text) (m : ℕ) → Stuck 1 None ts m → FirstBad ts m
first_bad ts m s =
    let lt = s.1 in
    let at = s.2 in
    let before : m - 1 ≡ s.0 = omega arith in
    let here : m ≡ suc s.0 = omega arith in (
      omega arith,
      omega arith,
      subst (λ k. Begins (take k ts)) (sym before) (begins (take s.0 ts) s.3.0 s.3.1),
      λ b. begins_not (take (suc s.0) ts) s.4 (subst (λ k. Begins (take k ts)) here b),
    )

-- ---- a load that is not ended

abbrev NoEnd : Text → Type 0
NoEnd u = Says u end → ⊥

abbrev Loads : ℕ → List Text → ℕ → Type 0
Loads n ts m = (before : List Text) × (t : Text) × (after : List Text) × (ts ≡ before ++ t ∷ after) × (m ≡ n + length before) × ((a : Text) × (ks : List Kind) × Says t (load a ks)) × AllOf NoEnd after

other_line : (t : Text) (l : Line) → said t ≡ Some l → (end ≡ l → ⊥) → NoEnd t
other_line t l e ne s = ne (same_Some end l (sym (line_written (texts (words t)) end s) ∙ e))

open_or : (n : ℕ) (o : Option ℕ) (t : Text) (ts : List Text) (m : ℕ) (l : Line) → said t ≡ Some l → stands n o l ≡ Some (Some m) → AllOf NoEnd ts → ((o ≡ Some m) × AllOf NoEnd (t ∷ ts)) ⊎ Loads n (t ∷ ts) m
open_or n o t ts m skip w e h = inl (same_Some _ _ e, (other_line t skip w (λ q. let z : ◌≡◌ {A = ℕ} 0 1 = cc in omega arith), h))
open_or n None t ts m (load a ks) w e h =
    let same : n ≡ m = cc (same_Some (Some n) (Some m) e) in
    inr ([], t, ts, refl, omega arith, (a, ks, line_read (texts (words t)) (load a ks) w), h)
open_or n (Some j) t ts m (load a ks) w e h = absent (Some m) e
open_or n None t ts m (row f u vs) w e h = absent (Some m) e
open_or n (Some j) t ts m (row f u vs) w e h = inl (same_Some _ _ e, (other_line t (row f u vs) w (λ q. let z : ◌≡◌ {A = ℕ} 0 1 = cc in omega arith), h))
open_or n None t ts m end w e h = absent (Some m) e
open_or n (Some j) t ts m end w e h = let q = same_Some None (Some m) e in let z : ◌≡◌ {A = ℕ} 0 1 = cc in absurd (omega arith)
open_or n None t ts m (drop a) w e h = let q = same_Some None (Some m) e in let z : ◌≡◌ {A = ℕ} 0 1 = cc in absurd (omega arith)
open_or n (Some j) t ts m (drop a) w e h = absent (Some m) e
open_or n None t ts m (show a) w e h = let q = same_Some None (Some m) e in let z : ◌≡◌ {A = ℕ} 0 1 = cc in absurd (omega arith)
open_or n (Some j) t ts m (show a) w e h = absent (Some m) e
open_or n None t ts m (query a q) w e h = let q = same_Some None (Some m) e in let z : ◌≡◌ {A = ℕ} 0 1 = cc in absurd (omega arith)
open_or n (Some j) t ts m (query a q) w e h = absent (Some m) e

loaded : (n : ℕ) (o : Option ℕ) (ts : List Text) (m : ℕ) → reach n o ts ≡ Some (Some m) → ((o ≡ Some m) × AllOf NoEnd ts) ⊎ Loads n ts m
loaded n o [] m e = inl (same_Some o (Some m) e, tt)
loaded n o (t ∷ ts) m e =
    let s = then_some (step n o t) (λ q. reach (n + 1) q ts) (Some m) e in
    let l = then_some (said t) (stands n o) s.0 s.1 in
    ⊎_elim
    (λ h. open_or n o t ts m l.0 l.1 (l.2 ∙ ap (λ p. Some p) h.0) h.1)
    (λ h. let at = h.4 in inr (t ∷ h.0, h.1, h.2, ap (λ x. t ∷ x) h.3, omega arith, h.5, h.6))
    (loaded (n + 1) s.0 ts m s.2)

unended_load : (ts : List Text) (m : ℕ) → reach 1 None ts ≡ Some (Some m) → Unended ts m
unended_load ts m e =
    ⊎_elim
    (λ h. let q = h.0 in let z : ◌≡◌ {A = ℕ} 0 1 = cc in absurd (omega arith))
    (λ h. let at = h.4 in (begins ts (Some m) e, (h.0, h.1, h.2, h.3, omega arith, h.5, h.6)))
    (loaded 1 None ts m e)

-- ---- what the check answers

wrong_line : (ts : List Text) (m : ℕ) → fault 1 None ts ≡ Some m → FirstBad ts m ⊎ Unended ts m
wrong_line ts m e = ⊎_elim (λ s. inl (first_bad ts m s)) (λ r. inr (unended_load ts m r)) (which 1 None ts m e)

abbrev Wrong : List ℕ → Refusal → Type 0
Wrong t r = WrongBy t r.reason r.line × (r.written ≡ 0)

by_line : (t : List ℕ) (o : Option ℕ) (r : Refusal) → too_long t ≡ false → fault 1 None (lines t) ≡ o → option_map line_refusal o ≡ Some r → Wrong t r
by_line t None r f q e = absent r e
by_line t (Some m) r f q e =
    let b = or_parts (ltb most_bytes (length t)) (ltb most_lines (length (lines t))) f in
    subst (Wrong t) (same_Some (line_refusal m) r e) ((ltb-false _ _ b.0, ltb-false _ _ b.1, wrong_line (lines t) m q), refl)

wrong : (t : List ℕ) (r : Refusal) → refusal t ≡ Some r → Wrong t r
wrong t r e =
    ⊎_elim
    (λ y.
    subst (Wrong t) (same_Some size_refusal r (sym (refused_size t y) ∙ e))
    ((refl, ⊎_elim (λ a. inl (ltb-true _ _ a)) (λ a. inr (ltb-true _ _ a)) (or_cases (ltb most_bytes (length t)) (ltb most_lines (length (lines t))) y)), refl))
    (λ f. by_line t (fault 1 None (lines t)) r f refl (sym (refused_line t f) ∙ e))
    (cases_Bool (too_long t))

-- the answer, said of the language
pub spoken : (t : List ℕ) {U : Type 0} (r : Result U Refusal) → MatchResult r (λ _. refusal t ≡ None) (λ e. refusal t ≡ Some e) → MatchResult r (λ _. Script t) (Refused t)
spoken t (Ok u) h = accepted t h
spoken t (Err e) h = let w = wrong t e h in ((λ s. absent e (sym (admitted t s) ∙ h)), w.0, w.1)
