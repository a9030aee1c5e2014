use mathlib.Core.Path.{◌≡◌, ap}
use Prim.Native.Nat.{◌*◌}
use native.Mathlib.Omega.{arith}
use Rattle.bits.specs.Rows.{count_below}
use Rattle.bits.specs.Sequences.{bit}
use Rattle.bit_select.proofs.places.select_blocks.Goals as goal

pub skip-near-requires : goal.skip-near-requires
skip-near-requires c =
    let t = c.block_of-t.result in
    let p : 8 * (64 * t) ≡ 512 * t = omega arith in
    let e = ap (count_below (bit c.args.v) c.args.row.bits.now) p in
    record { reached = record { within = omega arith; counted = omega (arith, e); fewer = omega (arith, e) }; w_bound = omega arith }
