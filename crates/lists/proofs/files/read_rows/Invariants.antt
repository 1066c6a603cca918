use Rattle.std.proofs.Common.{◌≡◌, ◌≤◌, ◌++◌, length, take}
use Rattle.relation.specs.Bounds.{most_work}
use Rattle.words.specs.Rest.{lines_left}
use Rattle.lists.specs.ListFiles.{rows_in}
use Rattle.lists.proofs.files.read_rows.Given as goal

abbrev pub invariant-loop-line : goal.invariant-loop-line
invariant-loop-line l = record {
  few : length l.rows.items ≤ most_work;
  gathered : take most_work (l.rows.items ++ rows_in l.kinds (lines_left l.lines)) ≡ take most_work (rows_in l.kinds (lines_left l.initial.lines));
}
