use Rattle.std.proofs.Common.{◌≡◌, ◌≤◌, true, ◌⊎◌, length, get_or, sym, ◌∙◌, inl, inr, arith, false-eqb}
use Rattle.std.specs.Str.{all_ascii_digits}
use Rattle.std.proofs.lemmas.List.{at_drop_more, at_drop_all}
use Rattle.words.specs.Number.{read_on}
use Rattle.words.proofs.Numeric.{digits_more, digits_stop, not_plain, is_plain, refused, read, one_digit_more, short}
use Rattle.words.proofs.numbers.digits.Goals as goal
use Rattle.words.proofs.numbers.digits.Goals.{else-ds-gt1-via-then-ds-gt1+else-ds-eq48, else-ds-gt1-via-else-ds-gt1}

pub returns-then-not-is_ascii_digit : goal.returns-then-not-is_ascii_digit
returns-then-not-is_ascii_digit c =
    record {
      value = refused c.args.ds.now (not_plain c.args.ds.now (sym c.loop-d.invariant.0 ∙ digits_stop c.args.ds.now c.loop-d.d-index c.loop-d-test.true c.if-not-is_ascii_digit.ensures.value));
      bound = tt;
    }

pub overflow_mul-n : goal.overflow_mul-n
overflow_mul-n c = omega (arith, short c.loop-d.n c.loop-d.d-index c.loop-d.invariant.2 (omega arith))

pub overflow_add-n : goal.overflow_add-n
overflow_add-n c = omega (arith, short c.loop-d.n c.loop-d.d-index c.loop-d.invariant.2 (omega arith), c.if-not-is_ascii_digit.ensures.bound)

pub loop-d-preserved : goal.loop-d-preserved
loop-d-preserved c =
    let told = c.if-not-is_ascii_digit.ensures in (
      sym (digits_more c.args.ds.now c.loop-d.d-index c.loop-d-test.true told.value) ∙ c.loop-d.invariant.0,
      sym (at_drop_more (read_on c.loop-d.n) c.args.ds.now c.loop-d.d-index 0 c.loop-d-test.true) ∙ c.loop-d.invariant.1,
      one_digit_more _ _ c.loop-d.d-index c.loop-d.invariant.2 (omega (arith, told.cases)),
    )

pub returns : goal.returns
returns c =
    let first : (length c.args.ds.now ≤ 1) ⊎ (get_or c.args.ds.now 0 0 ≡ 48 → ⊥) = elim c.else-ds-gt1.branch [ else-ds-gt1-via-then-ds-gt1+else-ds-eq48 w ↦ inr w.if-ds-eq48.false | else-ds-gt1-via-else-ds-gt1 w ↦ inl (omega arith) ] in
    let all : all_ascii_digits c.args.ds.now ≡ true = sym c.loop-d.invariant.0 ∙ at_drop_all all_ascii_digits c.args.ds.now c.loop-d.d-index (omega arith) in
    record {
      value = read c.args.ds.now _ (is_plain c.args.ds.now (omega (arith, false-eqb _ _ c.if-is_empty.ensures)) (omega arith) first all) (sym (at_drop_all (read_on c.loop-d.n) c.args.ds.now c.loop-d.d-index (omega arith)) ∙ c.loop-d.invariant.1);
      bound = short _ c.loop-d.d-index c.loop-d.invariant.2 (omega arith);
    }
