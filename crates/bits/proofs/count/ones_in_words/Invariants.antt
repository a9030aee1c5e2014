use mathlib.Core.Path.{◌≡◌}
use Prim.Native.Nat.{◌+◌, ◌*◌, ◌≤◌}
use Rattle.bits.specs.Rows.{count_below}
use Rattle.bits.proofs.count.ones_in_words.Given as goal

abbrev pub invariant-loop-w : goal.invariant-loop-w
invariant-loop-w l =
    (count_below 1 l.row (8 * (l.a + 8 * l.w)) ≡ count_below 1 l.row (8 * l.a) + l.count) × (l.count ≤ 64 * l.w)
