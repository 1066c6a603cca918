use Rattle.std.proofs.Common.{rules, is_some, sym, refl, ◌∙◌}
use borrow.Author.Tests.{tests}
use Rattle.std.proofs.lemmas.Iterator.Consumers.{YieldsList-from_first}
use Rattle.std.proofs.lemmas.Iterator.Search.{all_from_yields_List}
use Rattle.std.proofs.lemmas.List.Folds.{list_all-map}
use Rattle.words.specs.declared.reader.Word.{Word}
use Rattle.words.specs.Words.{Cut}
use Rattle.words.specs.Rest.{words_left}
use Rattle.takers.specs.Take.{column_at}
use Rattle.grammar.proofs.tails.all_columns.Goals as goal

pub returns : goal.returns
returns c =
    let left = words_left c.args.words in
    all_from_yields_List (λ (w : Cut). is_some (column_at w.1)) c.all.new.self _ c.all.result c.all.ensures.ran (YieldsList-from_first (λ (w : Word). (w.place, w.text.now)) words_left {s = c.args.words} left refl) (λ x b q k. search (rules, tests))
    ∙ sym (list_all-map (λ t. is_some (column_at t)) (λ (w : Cut). w.1) left)
