use Prim.Native.Nat.{◌-◌, ◌≤◌}
use Rattle.rank_set.proofs.Agreeing.{Apart}
use Rattle.rank_set.proofs.sets.lca_height.Given as goal

abbrev pub invariant-loop-height : goal.invariant-loop-height
invariant-loop-height l = (l.height ≤ 12) × Apart l.x l.y l.height

abbrev pub decreases-loop-height : goal.decreases-loop-height
decreases-loop-height l = 12 - l.height
