use Rattle.std.proofs.Common.{rules}
use borrow.Author.Tests.{tests}
use Rattle.grammar.specs.Grammar.{all_columns}
use Rattle.grammar.proofs.tails.take_columns.Goals as goal

pub returns : goal.returns
returns c = c.take_filled.ensures all_columns (λ w b p. search (rules, tests))
