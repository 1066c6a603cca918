use Rattle.std.proofs.Common.{◌≡◌, false, refl, ◌∙◌}
use Rattle.std.proofs.lemmas.Bool.{both_ways}
use Rattle.relation.specs.Few.{items}
use Rattle.source.specs.Meaning.{rows_of}
use Rattle.source.specs.Tables.{table}
use Rattle.source.proofs.TableRows.{part_stands}
use Rattle.register.specs.Layout.{part_of}
use Rattle.register.proofs.Tabled.{table_rows, part_allowed, collected_as}
use Rattle.register.proofs.works.coalesce_part.Goals as goal

-- the rows are good, so they are a table
pub new-table-requires : goal.new-table-requires
new-table-requires c =
    let a = c.args in
    let ks = items a.kinds in
    let allowed = part_allowed a.rows.now a.start a.len ks c.requires.within c.requires.places c.requires.few c.requires.good in
    record { sound = part_stands a.rows.now a.start a.len ks allowed; order = λ e. absurd (both_ways false refl e) }

pub returns : goal.returns
returns c =
    let e = c.new-table.ensures in
    let t = c.new-table.result in
    let ks = items c.args.kinds in
    let m : table t.rows.now t.start t.len (items t.kinds) ≡ table c.args.rows.now c.args.start c.args.len ks = λ j. table (e.0 j) (e.1 j) (e.2 j) (items (e.3 j)) in
    let r : rows_of (table t.rows.now t.start t.len (items t.kinds)) ≡ part_of ks c.args.start c.args.len c.args.rows.now =
    (λ j. rows_of (m j)) ∙ table_rows c.args.rows.now c.args.start c.args.len ks c.requires.within in
    collected_as (table t.rows.now t.start t.len (items t.kinds)) _ c.args.work.now c.args.index.now c.collect.result c.collect.new.rows c.collect.new.index r c.collect.ensures
