use Rattle.std.proofs.Common.{◌+◌, length, sym, ◌∙◌, arith, rules}
use borrow.Author.Tests.{tests}
use Rattle.std.proofs.lemmas.Bool.{ne_eqb}
use Rattle.std.proofs.lemmas.Iterator.{YieldsList-from_range}
use Rattle.std.proofs.lemmas.Iterator.Search.{all_from_yields_List}
use Rattle.source.specs.Meaning.{cell}
use Rattle.layers.specs.Alike.{alike}
use Rattle.layers.proofs.SameKinds.{lengths_differ, by_columns}
use Rattle.layers.proofs.kinds.same_kinds.Goals as goal

pub returns-then-columns : goal.returns-then-columns
returns-then-columns g c =
    let ks = (g.L.Source.meaning c.args.left.now).kinds in
    let ls = (g.R.Source.meaning c.args.right.now).kinds in
    all_from_yields_List (λ c. alike (cell ks c) (cell ls c)) _ _ c.all.result c.all.ensures.ran (YieldsList-from_range 1 (length ks + 1) (length ks) (cc) (omega arith)) (λ x b q k. search (rules, tests))
    ∙ by_columns ks ls (omega arith)

pub returns-else-columns : goal.returns-else-columns
returns-else-columns g c = ne_eqb _ _ c.if-columns.false ∙ sym (lengths_differ (g.L.Source.meaning c.args.left.now).kinds (g.R.Source.meaning c.args.right.now).kinds (λ e. c.if-columns.false (omega arith)))
