use Prim.Native.Nat.{◌+◌, ◌*◌, ◌≤◌, ◌<◌}
use Rattle.bits.specs.Bits.{sample_count}
use Rattle.bits.specs.Rows.{count_below}
use Rattle.bits.specs.Sequences.{bit}
use Rattle.bit_select.proofs.places.block_of.Given as goal

abbrev pub invariant-loop-len : goal.invariant-loop-len
invariant-loop-len l = (0 < l.len) × (l.lo + l.len ≤ sample_count l.row.n) × (count_below (bit l.v) l.row.bits.now (512 * l.lo) < l.j)

abbrev pub decreases-loop-len : goal.decreases-loop-len
decreases-loop-len l = l.len
