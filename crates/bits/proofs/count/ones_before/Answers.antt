use native.Mathlib.Omega.{arith}
use Rattle.bits.proofs.Bits.{count-zero, count_le}
use Rattle.bits.proofs.count.ones_before.Goals as goal

pub returns : goal.returns
returns c =
    let s = c in
    let row = s.args.row.now in
    omega (arith, count-zero 1 row, count_le 1 row s.args.i)
