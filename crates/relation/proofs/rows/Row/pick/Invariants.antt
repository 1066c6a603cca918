use Rattle.std.proofs.Common.{◌≡◌, take, pos}
use Rattle.relation.specs.Bounds.{most_columns}
use Rattle.relation.specs.Operations.{picked}
use Rattle.relation.specs.Stored.{firsts}
use Rattle.relation.proofs.rows.Row.pick.Given as goal

abbrev pub invariant-loop-i : goal.invariant-loop-i
invariant-loop-i l = l.picks ≡ firsts most_columns (picked (take l.i l.c-items) l.self.values) (pos 0)
