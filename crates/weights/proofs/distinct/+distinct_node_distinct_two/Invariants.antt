use Rattle.std.proofs.Common.{◌+◌, ◌-◌, ◌*◌}
use Rattle.weights.proofs.distinct.+distinct_node_distinct_two.Given as goal

-- how many levels are left below; two nodes beside each other come after a node of the level above
abbrev pub decreases-distinct_node : goal.decreases-distinct_node
decreases-distinct_node l = 2 * (l.tree.now.levels.height - l.j)

abbrev pub decreases-distinct_two : goal.decreases-distinct_two
decreases-distinct_two l = 2 * (l.tree.now.levels.height - l.j) + 1
