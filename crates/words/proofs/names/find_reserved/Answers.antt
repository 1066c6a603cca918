use Rattle.words.specs.Name.{reserved_words}
use Rattle.words.proofs.Listed.{found_in, reserved_are_text}
use Rattle.words.proofs.names.find_reserved.Goals as goal

pub returns : goal.returns
returns c = found_in c.args.word.now reserved_words c.find.result reserved_are_text c.find.ensures
