use Rattle.std.proofs.Common.{arith}
use Rattle.relation.specs.Few.{items}
use Rattle.source.proofs.TableRows.{row_in, row_out}
use Rattle.source.proofs.tables.Table.held.Goals as goal
use Rattle.source.proofs.tables.Table.held.Goals.{else-k-self-via-then-k-self+then-k-self-2+else-k-self-3, else-k-self-via-then-k-self+else-k-self-2, else-k-self-via-else-k-self}

pub returns-then-k-self-3 : goal.returns-then-k-self-3
returns-then-k-self-3 c = row_in c.args.self.now.rows.now c.args.self.now.start c.args.self.now.len (items c.args.self.now.kinds) c.args.k _ (omega arith) (omega arith) (omega arith)

pub returns-else-k-self : goal.returns-else-k-self
returns-else-k-self c = row_out c.args.self.now.rows.now c.args.self.now.start c.args.self.now.len (items c.args.self.now.kinds) c.args.k
    (λ p q r. elim c.else-k-self.branch [ else-k-self-via-then-k-self+then-k-self-2+else-k-self-3 w ↦ omega arith | else-k-self-via-then-k-self+else-k-self-2 w ↦ omega arith | else-k-self-via-else-k-self w ↦ omega arith ])
