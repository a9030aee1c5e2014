use mathlib.Core.Path.{◌≡◌, ap}
use Prim.Native.Nat.{ℕ, ◌+◌, ◌*◌, ◌/◌, ◌-◌, ◌≤◌, ◌<◌}
use native.Mathlib.Nat.{div-mul-le_self}
use native.Mathlib.Omega.{arith}
use Rattle.bits.specs.Bits.{row_bytes}
use Rattle.bits.specs.Rows.{count_below}
use Rattle.bits.specs.Sequences.{bit}
use Rattle.bits.proofs.Bits.{count_le, kind_add}
use Rattle.bit_select.proofs.places.skip.Goals as goal

-- step i of w ends within the whole steps
step_within : (d w i : ℕ) → i < d / w → w * i + w ≤ d
step_within d w i h = grind (arith, div-mul-le_self)

pub overflow_add-before : goal.overflow_add-before
overflow_add-before c =
    let k = c.args.from.byte + c.args.w * c.loop-i.i in
    let fits = step_within (row_bytes c.args.row.n - c.args.from.byte) c.args.w c.loop-i.i c.loop-i-test.true in
    omega (arith, fits, count_le (bit c.args.v) c.args.row.bits.now (8 * k), c.args.row.sampled.sized.small)

pub loop-i-preserved : goal.loop-i-preserved
loop-i-preserved c =
    let w = c.args.w in
    let bits = c.args.row.bits.now in
    let k = c.args.from.byte + w * c.loop-i.i in
    let next = c.args.from.byte + w * (c.loop-i.i + 1) in
    let p : k + w ≡ next = omega arith in
    let step = kind_add c.args.v bits (8 * k) (8 * (k + w)) (8 * w) c.ones_in.result (omega arith) (omega arith) c.ones_in.ensures.0 in
    record {
      within = omega (arith, step_within (row_bytes c.args.row.n - c.args.from.byte) w c.loop-i.i c.loop-i-test.true);
      counted = omega (arith, step, ap (λ (x : ℕ). count_below (bit c.args.v) bits (8 * x)) p);
      fewer = omega arith;
    }
