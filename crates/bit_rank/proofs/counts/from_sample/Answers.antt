use mathlib.Core.Path.{◌≡◌, ap}
use Prim.Native.Nat.{◌-◌, ◌*◌, ◌/◌}
use native.Mathlib.Omega.{arith}
use Rattle.bits.specs.Rows.{count_below}
use Rattle.bits.proofs.Bits.{count-zero}
use Rattle.bits.proofs.Samples.{samples_at_lem}
use Rattle.bit_rank.proofs.counts.from_sample.Goals as goal

pub returns-then-i-eq0 : goal.returns-then-i-eq0
returns-then-i-eq0 c =
    let row = c.args.row.bits.now in
    omega (arith, ap (count_below 1 row) c.if-i-eq0.true, count-zero 1 row)

pub returns : goal.returns
returns c =
    let s = c in
    let row = s.args.row.bits.now in
    let t = (s.args.i - 1) / 512 in
    let p : 8 * (64 * t) ≡ 512 * t = omega arith in
    let e = samples_at_lem s.args.row.n s.args.row.samples.now row s.args.row.sampled.right t (omega arith) in
    omega (arith, ap (count_below 1 row) p, e)
