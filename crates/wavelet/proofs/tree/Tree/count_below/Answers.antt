use Prim.Native.Nat.{◌-◌, ◌/◌, ◌^◌}
use native.Mathlib.Omega.{arith}
use Rattle.wavelet.proofs.Descents.{bits_lt, bits_le, bit-mul_le, below_all, below_root, toward_ordered, below_le, below_next, below_leaf}
use Rattle.wavelet.proofs.tree.Tree.count_below.Goals as goal

pub returns-then-v-self-ne0 : goal.returns-then-v-self-ne0
returns-then-v-self-ne0 c =
    let g = c.args in
    below_all g.self.now.bytes.now g.self.now.levels g.a g.b g.v c.requires.a_le_b.0 c.requires.a_le_b.1 (bits_le g.self.now.levels.height g.v c.if-v-self-ne0.true)

pub loop-j-init : goal.loop-j-init
loop-j-init c =
    let g = c.args in
    below_root g.self.now.bytes.now g.self.now.levels g.a g.b g.v c.requires.a_le_b.0 c.requires.a_le_b.1 (bits_lt g.self.now.levels.height g.v (omega arith))

pub halve-two-requires : goal.halve-two-requires
halve-two-requires c =
    let g = c.args in record {
      j_lt_height = (omega arith, toward_ordered g.self.now.bytes.now g.self.now.levels g.a g.b g.v c.requires.a_le_b.0 c.requires.a_le_b.1 c.loop-j.invariant.toward);
    }

pub overflow_mul-below : goal.overflow_mul-below
overflow_mul-below c =
    let g = c.args in
    let zero = c.halve-two.result.zero in
    rw c.bit_of-bit.ensures (omega (arith, bit-mul_le (g.v / 2 ^ (g.self.now.levels.height - 1 - c.loop-j.j)) (zero.hi - zero.lo)))

pub overflow_add-below : goal.overflow_add-below
overflow_add-below c =
    let g = c.args in
    let zero = c.halve-two.result.zero in
    let l = below_le g.self.now.bytes.now g.self.now.levels g.a g.b g.v c.requires.a_le_b.0 c.requires.a_le_b.1 c.loop-j.invariant in
    rw c.bit_of-bit.ensures (omega (arith, bit-mul_le (g.v / 2 ^ (g.self.now.levels.height - 1 - c.loop-j.j)) (zero.hi - zero.lo)))

pub loop-j-preserved : goal.loop-j-preserved
loop-j-preserved c =
    let g = c.args in
    rw (c.half-s.ensures, c.halve-two.ensures.0, c.bit_of-bit.ensures)
    (below_next g.self.now.bytes.now g.self.now.levels g.a g.b g.v c.requires.a_le_b.0 c.requires.a_le_b.1 (bits_lt g.self.now.levels.height g.v (omega arith)) (omega arith)
    c.loop-j.invariant)

pub returns : goal.returns
returns c =
    let g = c.args in
    below_leaf g.self.now.bytes.now g.self.now.levels g.a g.b g.v c.requires.a_le_b.0 c.requires.a_le_b.1 (omega arith) c.loop-j.invariant
