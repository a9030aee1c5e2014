use mathlib.Core.Path.{refl, ap₂}
use Prim.Native.Nat.{ℕ, ◌-◌}
use native.Mathlib.Omega.{arith}
use Rattle.bits.specs.Bits.{bits_of}
use Rattle.bits.specs.Sequences.{rank}
use Rattle.bits.proofs.Sequences.{rank_mono}
use Rattle.bit_rank.proofs.Onward.{rank-onward}
use Rattle.bit_rank.proofs.known.ones_between.Goals as goal

pub returns-then-x-row : goal.returns-then-x-row
returns-then-x-row c =
    let s = c in
    let g = s.args in
    omega (arith, rank-onward g.row.n g.row.bits.now g.x g.y (rank 1 (bits_of g.row.n g.row.bits.now) g.x) c.ones_onward.result s.requires.x_le_y.0 s.requires.x_le_y.1 refl c.ones_onward.ensures.0)

pub overflow_sub-result : goal.overflow_sub-result
overflow_sub-result c =
    let s = c in
    let g = s.args in
    omega (arith, c.rank1-before.ensures.0, c.rank1.ensures.0, rank_mono 1 (bits_of g.row.n g.row.bits.now) g.x g.y s.requires.x_le_y.0)

pub returns : goal.returns
returns c = ap₂ (λ (x y : ℕ). x - y) c.rank1.ensures.0 c.rank1-before.ensures.0
