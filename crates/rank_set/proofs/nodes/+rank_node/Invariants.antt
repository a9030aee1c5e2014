use Prim.Native.Nat.{◌-◌}
use Rattle.rank_set.proofs.nodes.+rank_node.Given as goal

abbrev pub decreases-rank_node : goal.decreases-rank_node
decreases-rank_node l = l.tree.now.levels.height - l.j
