use Rattle.std.proofs.Common.{rules, ◌≡◌, length, refl, sym, ◌∙◌}
use borrow.Author.Tests.{tests}
use Rattle.std.proofs.lemmas.Iterator.{YieldsList-from_slice, IsFirst-from_position, index_from_first}
use Rattle.relation.specs.Values.{front}
use Rattle.relation.proofs.ByteLoops.{front_hit, front_miss}
use Rattle.relation.proofs.values.before_zero.Goals as goal

pub returns : goal.returns
returns c =
    c.unwrap_or.ensures
    ∙ sym (index_from_first (λ s. length (front s)) (λ b. b ≡ 0) (λ b. b ≡ 0 → ⊥) refl front_hit front_miss c.args.bytes.now c.position.result (IsFirst-from_position _ _ c.position.result (λ b. b ≡ 0) (λ b. b ≡ 0 → ⊥) c.position.ensures.ran (YieldsList-from_slice c.args.bytes.now cc) (λ x q k. search (rules, tests)) (λ x q k. search (rules, tests))))
