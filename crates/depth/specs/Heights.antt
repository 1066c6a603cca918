-- How high a tree is.
use Rattle.std.specs.Prelude.{ℕ, ◌+◌, max}
use Rattle.tree.specs.Trees.{Tree, leaf, node}

-- the number of nodes on its longest way down
abbrev pub height : Tree → ℕ
height leaf = 0
height (node i p l r) = max (height l) (height r) + 1
