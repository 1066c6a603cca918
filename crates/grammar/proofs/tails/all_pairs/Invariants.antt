use Rattle.std.proofs.Common.{◌≡◌, length}
use Rattle.words.specs.Rest.{rest}
use Rattle.grammar.specs.Grammar.{all_pairs}
use Rattle.grammar.proofs.tails.all_pairs.Given as goal

abbrev pub invariant-loop-one : goal.invariant-loop-one
invariant-loop-one l = all_pairs (rest l.words) ≡ all_pairs (rest l.initial.words)

abbrev pub decreases-loop-one : goal.decreases-loop-one
decreases-loop-one l = length (rest l.words)
