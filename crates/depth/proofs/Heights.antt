-- A tree is no higher than it has nodes.
use Rattle.std.proofs.Common.{◌≤◌, arith}
use Rattle.tree.specs.Trees.{Tree, leaf, node, size}
use Rattle.depth.specs.Heights.{height}

pub height_size : (t : Tree) → height t ≤ size t
height_size leaf = omega arith
height_size (node i p l r) = omega (arith, height_size l, height_size r)
