use Prim.Native.Nat.{◌≤◌}
use Rattle.paths.proofs.walk.meet.Given as goal

abbrev pub invariant-loop-j : goal.invariant-loop-j
invariant-loop-j l = (l.j ≤ l.from.level) × (l.j ≤ l.to.level)

abbrev pub decreases-loop-j : goal.decreases-loop-j
decreases-loop-j l = l.j
