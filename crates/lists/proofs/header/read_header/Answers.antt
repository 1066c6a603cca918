use Rattle.std.proofs.Common.{rules}
use Rattle.words.specs.Rest.{texts}
use Rattle.words.specs.Words.{words}
use Rattle.lists.proofs.Language.{header_reads}
use Rattle.lists.proofs.header.read_header.Goals as goal

pub returns-clause-reads : goal.returns-clause-reads
returns-clause-reads c = header_reads (texts (words c.args.line.now)) _ (search rules)
