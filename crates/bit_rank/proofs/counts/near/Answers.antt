use mathlib.Core.Path.{◌≡◌, ap}
use Prim.Native.Nat.{ℕ, ◌+◌, ◌-◌, ◌*◌, ◌/◌, ◌%◌, ◌≤◌}
use native.Mathlib.Omega.{arith}
use Rattle.bit_rank.specs.Near.{kept}
use Rattle.bits.specs.Rows.{count_below}
use Rattle.bit_rank.proofs.Near.{near_sum}
use Rattle.bits.proofs.Samples.{samples_at_lem}
use Rattle.bit_rank.proofs.counts.near.Goals as goal
use Rattle.bit_rank.proofs.counts.near.Goals.{After-twice_behind}

-- what is taken off is no more than the sum, and leaves the count
rest : (c : After-twice_behind)
    → (c.twice_behind.result ≤ c.number-base.result + c.low_word_ones-tail.result + c.near_ones-a.result)
    × (c.number-base.result + c.low_word_ones-tail.result + c.near_ones-a.result - c.twice_behind.result ≡ count_below 1 c.args.row.bits.now c.args.i)
rest c =
    let row = c.args.row in
    let i = c.args.i in
    let t = i / 512 in
    let h = i % 512 / 256 in
    let w = i % 256 / 64 in
    let k = 64 * t + 32 * h in
    let base = samples_at_lem row.n row.samples.now row.bits.now row.sampled.right (t + h) (omega arith) in
    let p : 8 * (k + 8 * w) + i % 64 ≡ i = omega arith in
    let sum = near_sum row.bits.now t h w i c.low_word_ones-tail.result (omega arith) (omega arith) (rw p at c.low_word_ones-tail.ensures.0) in
    omega (arith, sum, base, ap (λ (x : ℕ). kept (1 - h) (2 * x)) c.near_ones-a.ensures.0)

pub overflow_sub-result : goal.overflow_sub-result
overflow_sub-result c = (rest c).0

pub returns : goal.returns
returns c = (rest c).1
