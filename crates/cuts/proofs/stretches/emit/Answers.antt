use Rattle.std.proofs.Common.{◌≡◌, ◌-◌, ◌≤◌, true, false, ◌⊎◌, get_or, ℤ, pos, sym, ap, ◌∙◌, subst, w64, SFits, rules}
use lib.Signed.{lt_z}
use Rattle.std.proofs.lemmas.Int.{to_z-of_z}
use Rattle.relation.specs.declared.rows.Row.{Row}
use Rattle.collect.specs.Areas.{no_row}
use Rattle.cuts.specs.Amounts.{value}
use Rattle.cuts.specs.Groups.{tuple_by}
use Rattle.cuts.proofs.Emitting.{emitting_none, emitting_skip, emitting_one, emitting_all, met}
use Rattle.cuts.proofs.stretches.emit.Goals as goal
use Rattle.cuts.proofs.stretches.emit.Goals.{then-cut-gt0+then-cut-next, else-cut-gt0}

pub loop-i-init : goal.loop-i-init
loop-i-init c = emitting_none _ _ _

pub loop-i-preserved : goal.loop-i-preserved
loop-i-preserved c =
    let cut : Row = get_or c.loop-i.cuts (c.loop-i.i - 1) no_row in
    let next : Row = get_or c.loop-i.cuts c.loop-i.i no_row in
    let group : Row = c.args.group.now in
    let rows_fit : SFits w64 (value 0 cut) = search rules in
    let rows_are = to_z-of_z w64 (value 0 cut) rows_fit in
    elim c.if-cut-gt0.branch [
      | then-cut-gt0+then-cut-next w ↦
          let amount_fits : SFits w64 (value 1 cut) = search rules in
          let tuple = w.tuple_by-values.ensures ∙ ap (tuple_by group c.args.by.columns.now) (to_z-of_z w64 (value 1 cut) amount_fits) in
          met _ _ _ _ _ _ _ _ w.cuts-is w.made-is
          (emitting_one _ _ _ _ _ _ c.loop-i.invariant c.loop-i.auto.cuts c.loop-i.auto.i c.loop-i-test.true _ (ap (lt_z (pos 0)) (sym rows_are) ∙ w.if-cut-gt0.true) w.if-cut-next.true
          (λ k. record { first = cut.first; end = next.first; values = tuple k }))
      | else-cut-gt0 w ↦
          let off = subst (λ (z : ℤ). ((lt_z (pos 0) z ≡ true) × (next.first ≤ cut.first)) ⊎ (lt_z (pos 0) z ≡ false)) rows_are w.else-cut-gt0.either in
          met _ _ _ _ _ _ _ _ w.cuts-is w.made-is (emitting_skip _ _ _ _ _ _ c.loop-i.invariant c.loop-i.auto.cuts c.loop-i.auto.i c.loop-i-test.true off)
    ]

pub returns : goal.returns
returns c = record { few = c.loop-i.invariant.few; stretches = emitting_all _ _ _ _ _ _ c.loop-i.invariant c.loop-i-test.false }
