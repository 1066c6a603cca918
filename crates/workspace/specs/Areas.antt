-- What new work areas hold.
use Rattle.std.specs.Prelude.{◌≡◌, ℕ, replicate}
use Rattle.relation.specs.Stored.{blank_row}
use Rattle.tree.specs.Trees.{blank}
use Rattle.workspace.specs.declared.Workspace.{Workspace}

-- both areas have this many entries, and each is blank
pub record Blank (places : ℕ) (w : Workspace) : Type 0 where
  pub rows : w.rows.items ≡ replicate places blank_row
  pub index : w.index.items ≡ replicate places blank
