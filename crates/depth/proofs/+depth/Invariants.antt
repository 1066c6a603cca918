use Rattle.tree.specs.Trees.{size, tree_of}
use Rattle.depth.proofs.+depth.Given as goal

abbrev pub decreases-depth : goal.decreases-depth
decreases-depth l = size (tree_of l.nodes.now l.link)
