use Rattle.std.proofs.Common.{◌≡◌, true, ◌&&◌, List, ◌∷◌, is_some, sym, ap, ◌∙◌}
use Rattle.words.specs.Rest.{texts}
use Rattle.takers.specs.Take.{Text}
use Rattle.grammar.specs.Said.{pair_at}
use Rattle.grammar.specs.Grammar.{all_pairs}
use Rattle.grammar.proofs.tails.all_pairs.Goals as goal

two_on : (all on end : List Text) (x y : Text) → all ≡ x ∷ on → on ≡ y ∷ end → true ≡ is_some (pair_at x y) → all_pairs end ≡ all_pairs all
two_on all on end x y p q t = sym (ap all_pairs (p ∙ ap (λ l. x ∷ l) q) ∙ ap (λ b. b && all_pairs end) (sym t))

pub loop-one-preserved : goal.loop-one-preserved
loop-one-preserved c = two_on _ _ _ _ _ (ap texts c.in-Some.ensures.steps.1) (ap texts c.in-Some-next.ensures.steps.1) c.if-not-is_pair.ensures ∙ c.loop-one.invariant
