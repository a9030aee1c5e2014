use Prim.Native.Nat.{◌-◌}
use Rattle.listing.proofs.lists.+list_node.Given as goal

abbrev pub decreases-list_node : goal.decreases-list_node
decreases-list_node l = l.tree.now.levels.height - l.j
