use Rattle.std.proofs.Common.{sym, ap, subst, ◌∙◌}
use Rattle.relation.specs.Few.{items}
use Rattle.std.specs.Prelude.{Decides}
use Rattle.source.specs.Tables.{TableOk, Rising, table}
use Rattle.source.proofs.Risen.{part_told}
use Rattle.source.proofs.TableRows.{part_stands, part_passed}
use Rattle.source.proofs.tables.Table.part.Goals as goal

pub new-requires : goal.new-requires
new-requires c =
    let a = c.args in
    let few = c.in_ok-few.ensures in
    let passed = part_passed a.rows.now a.start a.len c.min.result c.min-2.result a.kinds.now c.min.ensures c.min-2.ensures few.0 in
    let told = part_told a.rows.now a.start a.len c.min.result c.min-2.result a.kinds.now c.in_order-listed.result c.min.ensures c.min-2.ensures c.in_order-listed.ensures in
    subst (λ ks. TableOk a.rows.now a.start a.len ks c.in_order-listed.result) (sym few.1) (record { sound = part_stands a.rows.now a.start a.len a.kinds.now passed; order = told.0 })

pub returns : goal.returns
returns c =
    let a = c.args in
    let few = c.in_ok-few.ensures in
    let n = c.new.ensures in
    let passed = part_passed a.rows.now a.start a.len c.min.result c.min-2.result a.kinds.now c.min.ensures c.min-2.ensures few.0 in
    let told = part_told a.rows.now a.start a.len c.min.result c.min-2.result a.kinds.now c.in_order-listed.result c.min.ensures c.min-2.ensures c.in_order-listed.ensures in
    (passed, (n.0, n.1, n.2, ap items n.3 ∙ few.1, subst (λ b. Decides b (Rising (table a.rows.now a.start a.len a.kinds.now))) (sym n.4) told))
