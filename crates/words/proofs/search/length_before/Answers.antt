use Rattle.std.proofs.Common.{◌≡◌, Bool, ltb, not, List, length, refl, ap, ◌∙◌, arith}
use Rattle.std.specs.List.{position, position_or_len}
use Rattle.std.specs.Option.{unwrap_or}
use Rattle.std.proofs.lemmas.List.Sums.{prefix_len-le-length}
use Rattle.std.proofs.lemmas.Bool.{cond_both, ltb-false}
use Rattle.words.proofs.search.length_before.Goals as goal

or_all : {X : Type 0} (t : X → Bool) (xs : List X) → unwrap_or (position t xs) (length xs) ≡ position_or_len t xs
or_all t xs = cond_both (ltb (position_or_len t xs) (length xs)) _ _ (λ o. unwrap_or o (length xs) ≡ position_or_len t xs) (λ _. refl) (λ f. let le = prefix_len-le-length (λ x. not (t x)) xs in let ge = ltb-false _ _ f in omega arith)

pub returns : goal.returns
returns c = c.unwrap_or.ensures ∙ ap (λ o. unwrap_or o (length c.args.bytes.now)) c.find.ensures ∙ or_all _ c.args.bytes.now
