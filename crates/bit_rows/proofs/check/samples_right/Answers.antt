use mathlib.Core.Path.{◌≡◌, sym}
use Prim.Native.Nat.{◌*◌}
use native.Mathlib.Omega.{arith}
use Rattle.bits.specs.Bits.{number_at}
use Rattle.bits.specs.Rows.{count_below}
use Rattle.bits.proofs.Bits.{count-zero}
use Rattle.bits.proofs.Samples.{right_none, right_more, samples_all, samples_not}
use Rattle.bit_rows.proofs.check.samples_right.Goals as goal

pub loop-t-init : goal.loop-t-init
loop-t-init c =
    let row = c.args.row.now in
    (right_none c.args.samples.now row, (λ _. sym (count-zero 1 row)), omega arith)

pub returns-then-number-count : goal.returns-then-number-count
returns-then-number-count c =
    let l = c.loop-t in
    let h = c.loop-t-test.true in
    sym (samples_not c.args.n c.args.samples.now c.args.row.now l.t h (λ e. c.if-number-count.true (omega (arith, l.invariant.1 h))))

pub loop-t-preserved : goal.loop-t-preserved
loop-t-preserved c =
    let l = c.loop-t in
    let samples = c.args.samples.now in
    let row = c.args.row.now in
    let e = l.invariant.1 c.loop-t-test.true in
    let q : number_at samples (4 * l.t) ≡ count_below 1 row (512 * l.t) = omega arith in (
      right_more samples row l.t l.invariant.0 q,
      (λ m. omega (arith, e, c.block_ones-count.ensures.0 (omega arith))),
      omega arith,
    )

pub returns : goal.returns
returns c = sym (samples_all c.args.n c.args.samples.now c.args.row.now (λ k h. c.loop-t.invariant.0 k (omega arith)))
