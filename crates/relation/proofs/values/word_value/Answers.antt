use Rattle.std.proofs.Common.{length, sym}
use Rattle.relation.proofs.EightBytes.{value_read}
use Rattle.relation.proofs.values.word_value.Goals as goal

pub returns : goal.returns
returns c =
    value_read c.args.bytes.now c.copy_from_slice.new.self (length c.args.bytes.now) c.from_be_bytes.result
    (sym c.if-not-is_word.ensures) c.copy_from_slice.ensures.after c.from_be_bytes.ensures
