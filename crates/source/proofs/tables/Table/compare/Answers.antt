use Rattle.std.proofs.Common.{get_or, length, sym, ap, ◌∙◌, arith}
use Rattle.relation.specs.Few.{items}
use Rattle.relation.specs.Stored.{meant}
use Rattle.source.specs.Tables.{no_row, leading}
use Rattle.source.proofs.TableRows.{row_in, few_columns}
use Rattle.source.proofs.tables.Table.compare.Goals as goal

pub compare_lead-requires : goal.compare_lead-requires
compare_lead-requires c = omega (arith, c.width.ensures, few_columns c.args.self.now.rows.now c.args.self.now.start c.args.self.now.len (items c.args.self.now.kinds) c.args.self.now.ok.sound)

pub returns : goal.returns
returns c =
    let s = c.args.self.now in
    record {
      row = meant (length (items s.kinds)) (get_or s.rows.now c.args.k no_row);
      there = sym (row_in s.rows.now s.start s.len (items s.kinds) c.args.k no_row (omega arith) (omega arith) (omega arith));
      order = c.compare_lead.ensures ∙ ap (λ n. leading (meant n (get_or s.rows.now c.args.k no_row)).tuple c.args.lead.now) c.width.ensures;
    }
