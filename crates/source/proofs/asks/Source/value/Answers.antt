use Rattle.std.proofs.Common.{◌-◌, get_or, pos, Some, sym, ap, ◌∙◌, arith, w64, SFits, rules}
use Rattle.std.proofs.lemmas.Int.{to_z-of_z}
use Rattle.source.proofs.Cells.{value_stored, value_beyond}
use Rattle.source.proofs.asks.Source.value.Goals as goal
use Rattle.source.proofs.asks.Source.value.Goals.{else-c-ge1-via-then-c-ge1+else-c-columns, else-c-ge1-via-else-c-ge1}

pub returns-then-c-columns : goal.returns-then-c-columns
returns-then-c-columns g c =
    let m = g.Self.Source.meaning c.args.self.now in
    let s = g.Self.Source.sound c.args.self.now in
    let f : SFits w64 (get_or c.in_ok-row.row.values (c.args.c - 1) (pos 0)) = search rules in
    ap Some (to_z-of_z w64 _ f) ∙ value_stored (m.at c.args.k) m.kinds c.args.c c.in_ok-row.row s.few_kinds (λ r e. (s.filled c.args.k r e).fitting) (sym c.row.ensures ∙ c.in_ok-row.was) (omega arith) (omega arith)

pub returns-else-c-ge1 : goal.returns-else-c-ge1
returns-else-c-ge1 g c =
    let m = g.Self.Source.meaning c.args.self.now in
    let s = g.Self.Source.sound c.args.self.now in
    value_beyond (m.at c.args.k) m.kinds c.args.c (λ r e. (s.filled c.args.k r e).fitting)
    (λ p q. elim c.else-c-ge1.branch [ else-c-ge1-via-then-c-ge1+else-c-columns w ↦ omega arith | else-c-ge1-via-else-c-ge1 w ↦ omega arith ])
