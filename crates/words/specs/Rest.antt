-- The words and lines that are still to be read.
use Rattle.std.specs.Prelude.{ℕ, List, map}
use Rattle.words.specs.declared.reader.Words.{Words}
use Rattle.words.specs.declared.lines.Lines.{Lines}
use Rattle.words.specs.Words.{Cut, left}
use Rattle.words.specs.Lines.{lines}

-- the bytes of each word
abbrev pub texts : List Cut → List (List ℕ)
texts cs = map (λ c. c.1) cs

-- the words that a reader has left, each with its place
abbrev pub words_left : Words → List Cut
words_left w = left w.line.now w.at

abbrev pub rest : Words → List (List ℕ)
rest w = texts (words_left w)

abbrev pub lines_left : Lines → List (List ℕ)
lines_left l = lines l.rest.now
