use mathlib.Core.Path.{◌≡◌, ap}
use Prim.Native.Nat.{◌+◌, ◌*◌, ◌/◌, ◌%◌}
use native.Mathlib.Omega.{arith}
use Rattle.bits.specs.Rows.{count_below}
use Rattle.bits.proofs.Bits.{ones_byte}
use Rattle.bits.proofs.count.tail_ones.Goals as goal

pub returns-then-r-eq0 : goal.returns-then-r-eq0
returns-then-r-eq0 c =
    let s = c in
    let p : s.args.i ≡ 8 * (s.args.i / 8) = omega arith in
    omega (arith, ap (count_below 1 s.args.row.now) p)

pub returns : goal.returns
returns c =
    let s = c in
    let i = s.args.i in
    let p : 8 * (i / 8) + i % 8 ≡ i = omega arith in
    omega (arith, rw p at (ones_byte s.args.row.now (i / 8) (i % 8) (omega arith)))
