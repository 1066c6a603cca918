use Rattle.std.proofs.Common.{◌≡◌, pos, nat_abs, sym, ap, ◌∙◌, w64, SFits, to_z, of_z, rules}
use Rattle.std.proofs.lemmas.Int.{to_z-of_z}
use Rattle.relation.specs.Values.{word}
use Rattle.register.proofs.Stored.{name_value, name_some, name_small, cast_is}
use Rattle.register.proofs.entries.NameTryFromRefSliceU8.try_from.Goals as goal

value_is : (c : goal.In_ok-value) → to_z w64 (of_z w64 c.in_ok-value.value) ≡ pos (word c.args.bytes.now)
value_is c =
    let f : SFits w64 c.in_ok-value.value = search rules in
    to_z-of_z w64 c.in_ok-value.value f ∙ name_value c.args.bytes.now c.in_ok-value.value (sym c.if-not-is_name.ensures) (sym c.in_ok-value.ensures.ok_part ∙ c.word_value.ensures)

pub returns-in_err-value : goal.returns-in_err-value
returns-in_err-value c = absurd (name_some c.args.bytes.now (sym c.if-not-is_name.ensures) (sym c.in_err-value.ensures.ok_part ∙ c.word_value.ensures))

pub overflow_cast-result : goal.overflow_cast-result
overflow_cast-result c = cast_is _ (word c.args.bytes.now) (value_is c) (name_small c.args.bytes.now (sym c.if-not-is_name.ensures))

pub returns : goal.returns
returns c = (sym c.if-not-is_name.ensures, ap nat_abs (value_is c))
