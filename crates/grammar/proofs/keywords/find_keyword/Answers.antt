use Rattle.words.proofs.Listed.{found_in}
use Rattle.grammar.specs.Keywords.{keywords}
use Rattle.grammar.proofs.Listed.{keywords_are_text}
use Rattle.grammar.proofs.keywords.find_keyword.Goals as goal

pub returns : goal.returns
returns c = found_in c.args.word.now keywords c.find.result keywords_are_text c.find.ensures
