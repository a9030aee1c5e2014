use mathlib.Core.Path.{refl}
use Prim.Native.Nat.{◌/◌}
use native.Mathlib.Omega.{arith}
use lib.Dec.{ltb}
use Rattle.bits.specs.Sequences.{bit}
use Rattle.bit_select.proofs.Halving.{halve_step}
use Rattle.bit_select.proofs.places.block_of.Goals as goal

pub loop-len-preserved : goal.loop-len-preserved
loop-len-preserved c =
    let s = c in
    let l = c.loop-len in
    let j = s.args.j in
    let x = c.sampled.result in
    let step = halve_step (bit s.args.v) s.args.row.bits.now j l.lo (l.len / 2) x c.sampled.ensures.0 l.invariant.2 (ltb x j) refl in
    (omega arith, omega arith, rw c.times-lo.ensures.0 step)
