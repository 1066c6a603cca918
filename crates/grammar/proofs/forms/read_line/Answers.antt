use Rattle.std.proofs.Common.{◌≡◌, Some, sym, ◌∙◌}
use Rattle.std.specs.Option.{option_map}
use Rattle.std.proofs.lemmas.Bool.{cond-true, cond-false}
use Rattle.words.specs.Rest.{texts}
use Rattle.takers.specs.Take.{is_blank}
use Rattle.words.specs.Words.{words}
use Rattle.grammar.specs.Meaning.{skip}
use Rattle.grammar.specs.Said.{says}
use Rattle.grammar.specs.Grammar.{worded, line_of}
use Rattle.grammar.proofs.Reading.{reads}
use Rattle.grammar.proofs.forms.read_line.Goals as goal

pub returns-then-is_blank : goal.returns-then-is_blank
returns-then-is_blank c =
    let ws = texts (words c.args.line.now) in
    let e : Some skip ≡ line_of ws = sym (cond-true (is_blank ws) (Some skip) (worded ws) (sym c.if-is_blank.ensures)) in
    record { value = e; reads = reads ws (Some skip) e }

pub returns-else-is_blank : goal.returns-else-is_blank
returns-else-is_blank c =
    let ws = texts (words c.args.line.now) in
    let e : option_map says c.read_words.result ≡ line_of ws = c.read_words.ensures ∙ sym (cond-false (is_blank ws) (Some skip) (worded ws) (sym c.if-is_blank.ensures)) in
    record { value = e; reads = reads ws (option_map says c.read_words.result) e }
