use Rattle.std.proofs.Common.{◌≡◌, ◌^◌, ◌<◌, drop}
use Rattle.std.specs.Str.{all_ascii_digits}
use Rattle.words.specs.Number.{read_on}
use Rattle.words.proofs.numbers.digits.Given as goal

abbrev pub invariant-loop-d : goal.invariant-loop-d
invariant-loop-d l =
    (all_ascii_digits (drop l.d-index l.ds) ≡ all_ascii_digits l.ds) × (read_on l.n (drop l.d-index l.ds) ≡ read_on 0 l.ds) × (l.n < 10 ^ l.d-index)
