use Rattle.std.proofs.Common.{◌≡◌, map, take, drop}
use Rattle.std.specs.List.{list_all}
use Rattle.relation.specs.Few.{items}
use Rattle.words.specs.Kinds.{kind_byte, kind_of}
use Rattle.words.proofs.kinds.read_letters.Given as goal

abbrev pub invariant-loop-letter : goal.invariant-loop-letter
invariant-loop-letter g l = (items l.kinds ≡ map kind_of (take l.letter-index l.word)) × (list_all kind_byte (drop l.letter-index l.word) ≡ list_all kind_byte l.word)
