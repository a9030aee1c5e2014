use Prim.Native.Nat.{◌^◌, ◌≤◌, ◌<◌}
use mathlib.Core.Path.{◌≡◌}
use Rattle.conjunction.specs.Orders.{after_of}
use Rattle.conjunction.proofs.common.after.Given as goal

abbrev pub invariant-loop-n : goal.invariant-loop-n
invariant-loop-n l = (l.n < 2 ^ l.j) × (l.j ≤ l.level) × (after_of l.j l.n ≡ after_of l.level l.number)

abbrev pub decreases-loop-n : goal.decreases-loop-n
decreases-loop-n l = l.j
