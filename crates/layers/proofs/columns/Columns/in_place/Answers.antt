use Rattle.std.proofs.Common.{◌≡◌, ◌+◌, ◌≢◌, length, ap, ◌∙◌, subst, sym, rules}
use borrow.Author.Tests.{tests}
use Rattle.std.specs.Option.{unwrap_or}
use Rattle.std.proofs.lemmas.Iterator.{IsFirst-from_position, YieldsList-from_slice}
use Rattle.std.proofs.lemmas.Iterator.Consumers.{YieldsList-from_enumerate}
use Rattle.layers.specs.Columns.{InPlace}
use Rattle.layers.specs.Chosen.{chosen}
use Rattle.layers.proofs.Picks.{in_place}
use Rattle.layers.proofs.columns.Columns.in_place.Goals as goal

pub returns : goal.returns
returns c =
    let cs = chosen c.args.self.now in
    let first = IsFirst-from_position _ _ c.position.result (λ p. p.1 ≢ p.0 + 1) (λ p. p.1 ≡ p.0 + 1) c.position.ensures.ran
    (YieldsList-from_enumerate (YieldsList-from_slice cs (cc)) (cc)) (λ x q k. search (rules, tests)) (λ x q k. search (rules, tests)) in
    subst (InPlace cs) (sym (c.unwrap_or.ensures ∙ ap (λ l. unwrap_or c.position.result (length l)) c.as_slice-columns.ensures.items)) (in_place cs c.position.result first)
