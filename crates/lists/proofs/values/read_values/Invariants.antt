use Rattle.std.proofs.Common.{◌≡◌, length, drop}
use Rattle.relation.specs.Few.{items}
use Rattle.words.specs.Rest.{rest}
use Rattle.lists.specs.ListLines.{fits}
use Rattle.lists.proofs.Fitting.{Goes}
use Rattle.lists.proofs.values.read_values.Given as goal

abbrev pub invariant-loop-kind : goal.invariant-loop-kind
invariant-loop-kind l = record {
  one_each : length (items l.read) ≡ l.kind-index;
  goes : Goes (items l.read) (drop l.kind-index l.kinds) (rest l.words) ≡ fits l.kinds (rest l.fn.words);
}
