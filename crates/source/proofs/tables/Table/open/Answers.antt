use Rattle.std.proofs.Common.{length, sym, ap, subst, ◌∙◌}
use Rattle.std.specs.Prelude.{Decides}
use Rattle.relation.specs.Few.{items}
use Rattle.source.specs.Tables.{TableOk, Rising, table}
use Rattle.source.proofs.TableRows.{all_stand}
use Rattle.source.proofs.tables.Table.open.Goals as goal

pub new-requires : goal.new-requires
new-requires c =
    let a = c.args in
    let few = c.in_ok-few.ensures in
    subst (λ ks. TableOk a.rows.now 0 (length a.rows.now) ks c.in_order-listed.result) (sym few.1) (record { sound = all_stand a.rows.now a.kinds.now few.0; order = c.in_order-listed.ensures.0 })

pub returns : goal.returns
returns c =
    let a = c.args in
    let few = c.in_ok-few.ensures in
    let n = c.new.ensures in
    (few.0, (n.0, n.1, n.2, ap items n.3 ∙ few.1, subst (λ b. Decides b (Rising (table a.rows.now 0 (length a.rows.now) a.kinds.now))) (sym n.4) c.in_order-listed.ensures))
