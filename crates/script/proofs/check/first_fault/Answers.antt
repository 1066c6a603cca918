use Rattle.std.proofs.Common.{◌≡◌, ℕ, ◌+◌, ◌∷◌, List, Some, None, Option, sym, ap, ◌∙◌}
use Rattle.words.specs.Rest.{lines_left}
use Rattle.takers.specs.Take.{Text}
use Rattle.script.specs.Faults.{step, follow, fault}
use Rattle.script.proofs.check.first_fault.Goals as goal

-- the line where the lines ts are left, at the count k of lines before it
one_on : (k i : ℕ) (o : Option ℕ) (p : Option (Option ℕ)) (all ts : List Text) (t : Text) → all ≡ t ∷ ts → i ≡ k → p ≡ step (i + 1) o t → fault (k + 1) o all ≡ follow (i + 1) p (λ p. fault (i + 1 + 1) p ts)
one_on k i o p all ts t e same s =
    ap (fault (k + 1) o) e ∙ (λ j. follow (sym same j + 1) (step (sym same j + 1) o t) (λ p. fault (sym same j + 1 + 1) p ts)) ∙ ap (λ q. follow (i + 1) q (λ p. fault (i + 1 + 1) p ts)) (sym s)

pub returns-in_default : goal.returns-in_default
returns-in_default c =
    let s = c.in-Some.ensures.steps in
    sym (one_on c.loop-i.i-iterator.count c.in-Some.i c.loop-i.load None (lines_left c.loop-i.i-iterator.iter) (lines_left c.next.new.self.iter) c.in-Some.line.now s.0 s.1 c.in_default.ensures) ∙ c.loop-i.invariant

pub loop-i-preserved : goal.loop-i-preserved
loop-i-preserved c =
    let s = c.in-Some.ensures.steps in
    ap (λ k. fault (k + 1) c.in-Some-step.after (lines_left c.next.new.self.iter)) (s.2 ∙ ap (λ k. k + 1) (sym s.1))
    ∙ sym (one_on c.loop-i.i-iterator.count c.in-Some.i c.loop-i.load (Some c.in-Some-step.after) (lines_left c.loop-i.i-iterator.iter) (lines_left c.next.new.self.iter) c.in-Some.line.now s.0 s.1 c.in-Some-step.ensures)
    ∙ c.loop-i.invariant
