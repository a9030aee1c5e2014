use Prim.Native.Nat.{ℕ, ◌-◌, ◌<◌}
use native.Mathlib.Omega.{arith}
use mathlib.Core.Path.{sym, ap, ◌∙◌}
use lib.ListN.{take}
use lib.Dec.{eqb}
use Rattle.bits.specs.Sequences.{tally}
use Rattle.model.specs.Walk.{key}
use Rattle.model.proofs.Wavelet.Counts.{ones_step}
use Rattle.wavelet.specs.Levels.{entries_in, level_of}
use Rattle.wavelet.proofs.Descents.{bit_above, node_entries, count_ones, count_zeros}
use Rattle.wavelet.proofs.tree.Tree.count_under.Goals as goal

pub returns-then-j-k : goal.returns-then-j-k
returns-then-j-k c =
    let g = c.args in
    λ i inside from.
    node_entries g.self.now.bytes.now g.self.now.levels i g.d g.j g.p from
    ∙ ap (λ (n : ℕ). tally (λ x. eqb (key g.self.now.levels.height n x) (key g.self.now.levels.height n g.d)) (take i (entries_in g.self.now.bytes.now g.self.now.levels)))
    c.if-j-k.true

pub overflow_sub-result-else-bit_of-eq1-2 : goal.overflow_sub-result-else-bit_of-eq1-2
overflow_sub-result-else-bit_of-eq1-2 c =
    let g = c.args in
    let node = c.descend-node in
    omega (
      arith,
      c.ones_between-ones.ensures,
      ones_step (level_of g.self.now.bytes.now g.self.now.levels (g.k - 1)) node.result.start node.result.at node.ensures.1.from,
    )

pub returns-then-bit_of-eq1 : goal.returns-then-bit_of-eq1
returns-then-bit_of-eq1 c =
    let g = c.args in
    let l = c.requires.j_le_k in
    let node = c.descend-node in
    let above : 0 < g.k = omega (arith, l.0, c.if-j-k.false) in
    let bit = bit_above g.self.now.levels.height g.k g.d above in
    rw c.ones_between-ones.ensures
    (count_ones g.self.now.bytes.now g.self.now.levels g.d g.j g.p g.k node.result above l.1 l.2 node.ensures.0
    (sym bit ∙ sym c.bit_of.ensures ∙ c.if-bit_of-eq1.true))

pub returns-else-bit_of-eq1 : goal.returns-else-bit_of-eq1
returns-else-bit_of-eq1 c =
    let g = c.args in
    let l = c.requires.j_le_k in
    let node = c.descend-node in
    let above : 0 < g.k = omega (arith, l.0, c.if-j-k.false) in
    let bit = bit_above g.self.now.levels.height g.k g.d above in
    rw c.ones_between-ones.ensures
    (count_zeros g.self.now.bytes.now g.self.now.levels g.d g.j g.p g.k node.result above l.1 l.2 node.ensures.0
    (λ one. c.if-bit_of-eq1.false (c.bit_of.ensures ∙ bit ∙ one)))
