-- The check accepts just the scripts.
use Rattle.std.proofs.Common.{◌≡◌, ℕ, ◌+◌, Bool, true, false, not, ◌||◌, ltb, List, [], ◌∷◌, length, is_some, Some, None, Option, sym, refl, ap, ◌∙◌, subst, ⊎_elim}
use Rattle.std.specs.Option.{option_map}
use Rattle.std.proofs.lemmas.Bool.{cond-true, cond-false, ltb-false, le-ltb, or_parts, or_from, cases_Bool, true≢false, false≢true}
use Rattle.relation.specs.declared.refusals.Reason.TheVariants.{ScriptSize, Form}
use Rattle.relation.specs.declared.refusals.Refusal.{Refusal}
use Rattle.words.specs.Lines.{lines}
use Rattle.words.specs.Rest.{texts}
use Rattle.takers.specs.Take.{Text}
use Rattle.words.specs.Words.{words}
use Rattle.std.proofs.lemmas.Option.{same_Some}
use Rattle.takers.proofs.Options.{absent, then_some, then_is}
use Rattle.grammar.specs.Meaning.{Line, skip, load, row, end, drop, show, query}
use Rattle.grammar.proofs.Reading.{line_read, line_written}
use Rattle.script.specs.Faults.{most_bytes, most_lines, said, outside, within, stands, step, follow, fault, refusal, is_script}
use Rattle.script.specs.Scripts.{Written, Orderly, Lawful, Script}

-- ---- one line

-- a line that may stand only outside of loads, and one only within
from_outside : (o p a : Option ℕ) (b : Bool) (ls : List Line) → outside o a ≡ Some p → is_some a ≡ b → Orderly (is_some p) ls → (is_some o ≡ false) × Orderly b ls
from_outside None p a b ls e same k = (refl, subst (λ v. Orderly v ls) (ap is_some (sym (same_Some a p e)) ∙ same) k)
from_outside (Some m) p a b ls e same k = absent p e

from_within : (o p a : Option ℕ) (b : Bool) (ls : List Line) → within o a ≡ Some p → is_some a ≡ b → Orderly (is_some p) ls → (is_some o ≡ true) × Orderly b ls
from_within None p a b ls e same k = absent p e
from_within (Some m) p a b ls e same k = (refl, subst (λ v. Orderly v ls) (ap is_some (sym (same_Some a p e)) ∙ same) k)

forward : (n : ℕ) (o p : Option ℕ) (l : Line) (ls : List Line) → stands n o l ≡ Some p → Orderly (is_some p) ls → Orderly (is_some o) (l ∷ ls)
forward n o p skip ls e k = subst (λ v. Orderly (is_some v) ls) (sym (same_Some o p e)) k
forward n o p (load a ks) ls e k = from_outside o p (Some n) true ls e refl k
forward n None p (row f u vs) ls e k = absent p e
forward n (Some m) p (row f u vs) ls e k = from_within (Some m) p (Some m) true ls e refl k
forward n o p end ls e k = from_within o p None false ls e refl k
forward n o p (drop a) ls e k = from_outside o p None false ls e refl k
forward n o p (show a) ls e k = from_outside o p None false ls e refl k
forward n o p (query a q) ls e k = from_outside o p None false ls e refl k

to_outside : (o a : Option ℕ) → is_some o ≡ false → outside o a ≡ Some a
to_outside None a h = refl
to_outside (Some m) a h = absurd (true≢false h)

to_within : (o a : Option ℕ) → is_some o ≡ true → within o a ≡ Some a
to_within None a h = absurd (false≢true h)
to_within (Some m) a h = refl

back : (n : ℕ) (o : Option ℕ) (l : Line) (ls : List Line) → Orderly (is_some o) (l ∷ ls) → (p : Option ℕ) × (stands n o l ≡ Some p) × Orderly (is_some p) ls
back n o skip ls k = (o, refl, k)
back n o (load a ks) ls k = (Some n, to_outside o (Some n) k.0, k.1)
back n o (row f u vs) ls k = (o, to_within o o k.0, subst (λ b. Orderly b ls) (sym k.0) k.1)
back n o end ls k = (None, to_within o None k.0, k.1)
back n o (drop a) ls k = (None, to_outside o None k.0, k.1)
back n o (show a) ls k = (None, to_outside o None k.0, k.1)
back n o (query a q) ls k = (None, to_outside o None k.0, k.1)

-- ---- all lines

some_none : {X : Type 0} (n : ℕ) → ◌≡◌ {A = Option ℕ} (Some n) None → X
some_none n e = absent n (sym e)

abbrev Sound : Option ℕ → List Text → Type 0
Sound o ts = (ls : List Line) × Written ts ls × Orderly (is_some o) ls

pub faultless : (n : ℕ) (o : Option ℕ) (ts : List Text) → fault n o ts ≡ None → Sound o ts
faultless n None [] e = ([], tt, refl)
faultless n (Some m) [] e = some_none m e
faultless n o (t ∷ ts) e = by_step (λ p g. faultless (n + 1) p ts g) (step n o t) refl e
  where
    by_step : ((p : Option ℕ) → fault (n + 1) p ts ≡ None → Sound p ts) → (q : Option (Option ℕ)) → step n o t ≡ q → follow n q (λ p. fault (n + 1) p ts) ≡ None → Sound o (t ∷ ts)
    by_step go None w e = some_none n e
    by_step go (Some p) w e =
        let s = then_some (said t) (stands n o) p w in
        let r = go p e in
        (s.0 ∷ r.0, (line_read (texts (words t)) s.0 s.1, r.1), forward n o p s.0 r.0 s.2 r.2)

pub no_fault : (n : ℕ) (o : Option ℕ) (ts : List Text) (ls : List Line) → Written ts ls → Orderly (is_some o) ls → fault n o ts ≡ None
no_fault n None [] [] w k = refl
no_fault n (Some m) [] [] w k = absurd (true≢false k)
no_fault n o [] (l ∷ ls) w k = absurd w
no_fault n o (t ∷ ts) [] w k = absurd w
no_fault n o (t ∷ ts) (l ∷ ls) w k =
    let b = back n o l ls k in
    ap (λ q. follow n q (λ p. fault (n + 1) p ts)) (then_is (said t) (stands n o) l (line_written (texts (words t)) l w.0) ∙ b.1)
    ∙ no_fault (n + 1) b.0 ts ls w.1 b.2

pub lawful : (ts : List Text) → fault 1 None ts ≡ None → Lawful ts
lawful ts e = faultless 1 None ts e

pub no_fault_in : (ts : List Text) → Lawful ts → fault 1 None ts ≡ None
no_fault_in ts h = no_fault 1 None ts h.0 h.1 h.2

-- ---- texts

abbrev pub too_long : List ℕ → Bool
too_long t = ltb most_bytes (length t) || ltb most_lines (length (lines t))

abbrev pub size_refusal : Refusal
size_refusal = record { reason = ScriptSize; line = 0; written = 0 }

abbrev pub line_refusal : ℕ → Refusal
line_refusal n = record { reason = Form; line = n; written = 0 }

pub refused_size : (t : List ℕ) → too_long t ≡ true → refusal t ≡ Some size_refusal
refused_size t e = cond-true (too_long t) (Some size_refusal) (option_map line_refusal (fault 1 None (lines t))) e

pub refused_line : (t : List ℕ) → too_long t ≡ false → refusal t ≡ option_map line_refusal (fault 1 None (lines t))
refused_line t e = cond-false (too_long t) (Some size_refusal) (option_map line_refusal (fault 1 None (lines t))) e

mapped_none : (o : Option ℕ) → option_map line_refusal o ≡ None → o ≡ None
mapped_none None e = refl
mapped_none (Some n) e = absent (line_refusal n) (sym e)

pub accepted : (t : List ℕ) → refusal t ≡ None → Script t
accepted t e =
    ⊎_elim
    (λ y. absent size_refusal (sym e ∙ refused_size t y))
    (λ f.
    let b = or_parts (ltb most_bytes (length t)) (ltb most_lines (length (lines t))) f in
    (ltb-false _ _ b.0, ltb-false _ _ b.1, lawful (lines t) (mapped_none (fault 1 None (lines t)) (sym (refused_line t f) ∙ e))))
    (cases_Bool (too_long t))

pub admitted : (t : List ℕ) → Script t → refusal t ≡ None
admitted t h =
    refused_line t (or_from (ltb most_bytes (length t)) (ltb most_lines (length (lines t))) (le-ltb _ _ h.0) (le-ltb _ _ h.1))
    ∙ ap (option_map line_refusal) (no_fault_in (lines t) h.2)

no_refusal : (r : Option Refusal) → not (is_some r) ≡ true → r ≡ None
no_refusal None e = refl
no_refusal (Some x) e = absurd (false≢true e)

pub is_script_lem : (t : List ℕ) → is_script t ≡ true → Script t
is_script_lem t e = accepted t (no_refusal (refusal t) e)
