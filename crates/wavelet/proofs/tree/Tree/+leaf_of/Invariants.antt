use Rattle.std.proofs.Common.{◌-◌}
use Rattle.wavelet.proofs.tree.Tree.+leaf_of.Given as goal

-- how many levels are left below
abbrev pub decreases-leaf_of : goal.decreases-leaf_of
decreases-leaf_of l = l.self.now.levels.height - l.j
