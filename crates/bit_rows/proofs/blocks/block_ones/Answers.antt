use mathlib.Core.Path.{◌≡◌, ap}
use Prim.Native.Nat.{◌+◌, ◌*◌}
use native.Mathlib.Omega.{arith}
use Rattle.bits.specs.Rows.{count_below}
use Rattle.bit_rows.proofs.blocks.block_ones.Goals as goal

pub returns-then-t-n : goal.returns-then-t-n
returns-then-t-n c =
    let t = c.args.t in
    let from : 8 * (64 * t) ≡ 512 * t = omega arith in
    let to : 8 * (64 * t + 64) ≡ 512 * (t + 1) = omega arith in
    let count = count_below 1 c.args.row.now in
    ((λ _. omega (arith, ap count from, ap count to)), omega arith)
