use mathlib.Core.Path.{◌≡◌}
use Prim.Native.Nat.{◌+◌, ◌*◌, ◌-◌, ◌≤◌}
use Rattle.bits.specs.Rows.{count_below}
use Rattle.bits.proofs.count.ones_in_bytes.Given as goal

abbrev pub invariant-loop-k : goal.invariant-loop-k
invariant-loop-k l =
    (count_below 1 l.row (8 * l.k) ≡ count_below 1 l.row (8 * l.a) + l.count) × (l.count ≤ 8 * (l.k - l.a))
