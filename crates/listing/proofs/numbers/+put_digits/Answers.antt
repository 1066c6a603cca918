use Rattle.std.proofs.Common.{sym, arith}
use Rattle.std.proofs.lemmas.Fmt.{decimal_digit, decimal_step}
use Rattle.listing.proofs.Parts.{taken_as}
use Rattle.listing.proofs.numbers.+put_digits.Goals as goal

pub returns-then-n-lt10 : goal.returns-then-n-lt10
returns-then-n-lt10 g t c = taken_as g.S.Sink.takes c.put_digit.ensures (sym (decimal_digit c.args.n c.if-n-lt10.true))

pub returns-else-n-lt10 : goal.returns-else-n-lt10
returns-else-n-lt10 g t c =
    let both = g.met.S.Sink.both in
    taken_as g.S.Sink.takes (both _ _ _ _ _ c.put_digits.ensures c.put_digit-else-n-lt10.ensures) (sym (decimal_step c.args.n c.if-n-lt10.false (omega arith)))
