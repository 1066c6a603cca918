use Rattle.std.proofs.Common.{true, false, sym, refl}
use Rattle.register.proofs.Stored.{row_no_lem}
use Rattle.register.proofs.store.check_row.Goals as goal

pub returns-then-not-same_kinds : goal.returns-then-not-same_kinds
returns-then-not-same_kinds c = sym (row_no_lem c.args.kinds.now c.args.given.now c.args.row.now false _ _ _ (sym c.if-not-same_kinds.ensures) refl refl refl)

pub returns-then-not-is_period : goal.returns-then-not-is_period
returns-then-not-is_period c = sym (row_no_lem c.args.kinds.now c.args.given.now c.args.row.now true false _ _ (sym c.if-not-same_kinds.ensures) (sym c.if-not-is_period.ensures) refl refl)

pub returns-then-not-fits_kinds : goal.returns-then-not-fits_kinds
returns-then-not-fits_kinds c = sym (row_no_lem c.args.kinds.now c.args.given.now c.args.row.now true true false _ (sym c.if-not-same_kinds.ensures) (sym c.if-not-is_period.ensures) (sym c.if-not-fits_kinds.ensures) refl)

pub returns-then-not-rest_zero : goal.returns-then-not-rest_zero
returns-then-not-rest_zero c = sym (row_no_lem c.args.kinds.now c.args.given.now c.args.row.now true true true false (sym c.if-not-same_kinds.ensures) (sym c.if-not-is_period.ensures) (sym c.if-not-fits_kinds.ensures) (sym c.if-not-rest_zero.ensures))

pub returns : goal.returns
returns c = sym (row_no_lem c.args.kinds.now c.args.given.now c.args.row.now true true true true (sym c.if-not-same_kinds.ensures) (sym c.if-not-is_period.ensures) (sym c.if-not-fits_kinds.ensures) (sym c.if-not-rest_zero.ensures))
