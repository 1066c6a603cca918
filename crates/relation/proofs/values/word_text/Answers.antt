use Rattle.std.proofs.Common.{length, ap, arith, ◌∙◌}
use Rattle.std.proofs.lemmas.List.{length-take}
use Rattle.relation.proofs.EightBytes.{text_found, text_none}
use Rattle.relation.proofs.Shorts.{kept_whole}
use Rattle.relation.proofs.values.word_text.Goals as goal

pub returns-then-eq : goal.returns-then-eq
returns-then-eq c =
    kept_whole c.from_slice.result _ (omega (arith, length-take c.before_zero.result c.to_be_bytes-bytes.result, ap length c.to_be_bytes-bytes.ensures)) c.from_slice.ensures
    ∙ text_found c.args.value c.to_be_bytes-bytes.result c.before_zero.result c.word_value.result c.eq.result
    c.ranges.value c.before_zero.ensures c.word_value.ensures c.eq.ensures c.if-eq.true

pub returns-else-eq : goal.returns-else-eq
returns-else-eq c =
    text_none c.args.value c.to_be_bytes-bytes.result c.before_zero.result c.word_value.result c.eq.result
    c.ranges.value c.before_zero.ensures c.word_value.ensures c.eq.ensures c.if-eq.false c.to_be_bytes-bytes.ensures
