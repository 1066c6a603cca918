-- The columns that are chosen.
use Rattle.std.specs.Prelude.{ℕ, List}
use Rattle.relation.specs.Few.{items}
use Rattle.layers.specs.declared.columns.Columns.{Columns}

-- the columns in their order
abbrev pub chosen : Columns → List ℕ
chosen s = items s.at
