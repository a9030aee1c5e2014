use mathlib.Core.Path.{◌≡◌}
use Prim.Native.Nat.{◌*◌, ◌≤◌, ◌<◌}
use Rattle.bits.specs.Rows.{count_below}
use Rattle.bits.proofs.Samples.{RightTo}
use Rattle.bit_rows.proofs.check.samples_right.Given as goal

abbrev pub invariant-loop-t : goal.invariant-loop-t
invariant-loop-t l =
    RightTo l.samples l.row l.t × (l.t < l.m → l.count ≡ count_below 1 l.row (512 * l.t)) × (l.count ≤ 512 * l.t)
