use Rattle.std.proofs.Common.{◌≡◌, ℕ, cond, not, ltb, get_or, Some, None, Option, sym, refl, ap, ◌∙◌, subst, arith}
use Rattle.std.proofs.lemmas.Option.{MatchOption-at_some, MatchOption-at_none}
use Rattle.std.proofs.lemmas.Result.{err_from_is_err_and}
use Rattle.std.proofs.lemmas.Bool.{cond-true, cond-false, lt-ltb, le-ltb, not_from_true, not_from_false}
use Rattle.relation.specs.declared.refusals.Reason.{Reason}
use Rattle.relation.specs.declared.refusals.Reason.TheVariants as no
use Rattle.relation.specs.Few.{items}
use Rattle.relation.specs.Refusals.{plain?}
use Rattle.register.specs.Layout.{free}
use Rattle.register.specs.State.{held, used, rows_of, Leaves, added, size_of}
use Rattle.register.specs.Refusals.{row_no, slip_fits, or_else}
use Rattle.register.proofs.Fits.{put_no_lem, fits_draft}
use Rattle.register.proofs.Refused.{refused_by}
use Rattle.register.proofs.store.Store.put.Goals as goal

pub returns-in_err-i : goal.returns-in_err-i
returns-in_err-i c =
    let none = MatchOption-at_none _ _ c.in_err-i.ensures.ok_part c.draft_of.ensures in
    rw (refused_by c.draft_of.result no.SlipMisfit _ c.from_residual.result c.in_err-i.ensures.ok_part c.in_err-i.ensures.value c.from_residual.ensures.1)
    (record { whole = c.requires; refused = sym (ap plain? (cond-true (not (slip_fits c.args.number c.args.self.now c.args.slip.now)) (Some no.SlipMisfit) _ (not_from_false _ none))); after = refl })

pub returns-in_err-check_row : goal.returns-in_err-check_row
returns-in_err-check_row c =
    let s = c.args.self.now in
    let f = MatchOption-at_some _ _ c.in_ok-i.i c.in_ok-i.ensures.ok_part c.draft_of.ensures in
    let p = err_from_is_err_and c.from_residual-in_err-check_row.result c.from_residual-in_err-check_row.ensures.1 in
    let q = put_no_lem c.args.number s c.args.slip.now c.args.row c.args.kinds.now c.in_ok-i.i c.requires f in
    let ks : c.as_slice.result.now ≡ items (get_or s.directory.entries c.in_ok-i.i free).kinds = c.as_slice.ensures.items ∙ ap (λ x. items x.kinds) c.at-entry.ensures in
    let bad = ap (λ x. row_no x c.args.kinds.now c.args.row) (sym ks) ∙ sym c.in_err-check_row.ensures in
    rw (p.1, p.2) (record { whole = c.requires; refused = sym (ap plain? (q ∙ ap (λ x. or_else x (cond (not (ltb (used s) (rows_of s))) (Some no.NoRow) None)) bad)); after = refl })

pub returns-then-sum-capacity : goal.returns-then-sum-capacity
returns-then-sum-capacity c =
    let s = c.args.self.now in
    let room : Option Reason = cond (not (ltb (used s) (rows_of s))) (Some no.NoRow) None in
    let f = MatchOption-at_some _ _ c.in_ok-i.i c.in_ok-i.ensures.ok_part c.draft_of.ensures in
    let ks : c.as_slice.result.now ≡ items (get_or s.directory.entries c.in_ok-i.i free).kinds = c.as_slice.ensures.items ∙ ap (λ x. items x.kinds) c.at-entry.ensures in
    let good = ap (λ x. row_no x c.args.kinds.now c.args.row) (sym ks) ∙ sym c.in_ok-check_row.ensures in
    let q = put_no_lem c.args.number s c.args.slip.now c.args.row c.args.kinds.now c.in_ok-i.i c.requires f in
    record {
      whole = c.requires;
      refused = ap Some c.into.ensures ∙ sym (ap plain? (q ∙ (ap (λ x. or_else x room) good ∙ cond-true (not (ltb (used s) (rows_of s))) (Some no.NoRow) None (not_from_false _ (le-ltb (used s) (rows_of s) (omega arith))))));
      after = refl;
    }

pub returns : goal.returns
returns c =
    let s = c.args.self.now in
    let t = c.add.new.self in
    let room : Option Reason = cond (not (ltb (used s) (rows_of s))) (Some no.NoRow) None in
    let f = MatchOption-at_some _ _ c.in_ok-i.i c.in_ok-i.ensures.ok_part c.draft_of.ensures in
    let ks : c.as_slice.result.now ≡ items (get_or s.directory.entries c.in_ok-i.i free).kinds = c.as_slice.ensures.items ∙ ap (λ x. items x.kinds) c.at-entry.ensures in
    let good = ap (λ x. row_no x c.args.kinds.now c.args.row) (sym ks) ∙ sym c.in_ok-check_row.ensures in
    let q = put_no_lem c.args.number s c.args.slip.now c.args.row c.args.kinds.now c.in_ok-i.i c.requires f in
    record {
      whole = c.add.ensures.whole;
      refused = sym (ap plain? (q ∙ (ap (λ x. or_else x room) good ∙ cond-false (not (ltb (used s) (rows_of s))) (Some no.NoRow) None (not_from_true _ (lt-ltb (used s) (rows_of s) (omega arith))))));
      after = record {
        draft = fits_draft c.args.number s c.args.slip.now f.0;
        leaves = subst (λ (n : ℕ). Leaves s t n (added c.args.row (held s n))) f.3 c.add.ensures.leaves;
        size = subst (λ (n : ℕ). c.add.result ≡ size_of (held t n)) f.3 c.add.ensures.size;
      };
    }
