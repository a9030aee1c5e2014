use mathlib.Core.Path.{◌≡◌}
use Prim.Native.Nat.{◌<◌}
use Rattle.bits.specs.Rows.{count_below}
use Rattle.bits.specs.Sequences.{bit}
use Rattle.bit_select.proofs.places.find_bit.Given as goal

abbrev pub invariant-loop-i : goal.invariant-loop-i
invariant-loop-i l = (count_below (bit l.v) l.row.bits.now l.i ≡ l.count) × (l.count < l.j)
