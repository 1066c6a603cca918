use Rattle.std.proofs.Common.{rules}
use Rattle.words.specs.Rest.{texts}
use Rattle.words.specs.Words.{words}
use Rattle.lists.proofs.Language.{row_reads}
use Rattle.lists.proofs.rows.read_row.Goals as goal

pub returns-in_err-parts-clause-reads : goal.returns-in_err-parts-clause-reads
returns-in_err-parts-clause-reads c = row_reads c.args.kinds.now (texts (words c.args.line.now)) _ (search rules)

pub returns-clause-reads : goal.returns-clause-reads
returns-clause-reads c = row_reads c.args.kinds.now (texts (words c.args.line.now)) _ (search rules)
