use Prim.Native.Nat.{◌-◌}
use native.Mathlib.Omega.{arith}
use mathlib.Core.Path.{◌∙◌}
use mathlib.Core.Bool.{Bool}
use lib.Dec.{leb}
use Rattle.wavelet.specs.declared.Span.{Span}
use Rattle.wavelet.proofs.Ranges.{node_lt, leaf_next, ordered_half}
use Rattle.wavelet.proofs.tree.Tree.+leaf_of.Goals as goal

pub leaf_of-requires : goal.leaf_of-requires
leaf_of-requires t c =
    let g = c.args in
    let two = c.halve-two.result in
    let b : Bool = leb (two.zero.hi - two.zero.lo) g.r in (
      omega arith,
      (
        omega arith,
        node_lt g.q g.j b c.requires.j_le_height.1,
        rw c.half-s.ensures (ordered_half g.self.now.levels.entries two c.halve-two.ensures.1 c.halve-two.ensures.2 b),
      ),
    )

pub returns : goal.returns
returns t c =
    let g = c.args in
    let n : Span = record { start = g.start; lo = g.lo; hi = g.hi; end = g.end } in
    c.leaf_of.ensures
    ∙ rw (c.half-s.ensures, c.halve-two.ensures.0) (leaf_next g.self.now.bytes.now g.self.now.levels g.j g.q n g.r (omega arith) c.requires.j_le_height.2)
