use Prim.Native.Nat.{◌<◌}
use native.Mathlib.Omega.{arith}
use mathlib.Core.Path.{◌≡◌, sym, subst, ◌∙◌}
use Rattle.wavelet.specs.Levels.{level_of}
use Rattle.wavelet.specs.Spans.{Ordered, span_at}
use Rattle.wavelet.proofs.Steps.{level-of, ordered_half_of}
use Rattle.wavelet.proofs.Descents.{leads_next, next_bit}
use Rattle.wavelet.proofs.tree.Tree.descend.Goals as goal

pub loop-i-init : goal.loop-i-init
loop-i-init c = ((λ i inside from. from), c.requires.j_le_k.3)

pub loop-i-preserved : goal.loop-i-preserved
loop-i-preserved c =
    let g = c.args in
    let l = c.loop-i in
    let below : l.i < g.self.now.levels.height = omega arith in (
      leads_next g.self.now.bytes.now g.self.now.levels g.d g.j g.p l.i l.place c.requires.j_le_k.2 below l.invariant.0 c.bit_of.result
          (c.bit_of.ensures ∙ next_bit g.self.now.levels.height l.i g.d below) c.step-place.result c.step-place.ensures,
      subst (Ordered g.self.now.levels.entries) (sym c.step-place.ensures)
          (ordered_half_of (level_of g.self.now.bytes.now g.self.now.levels l.i) g.self.now.levels.entries (level-of g.self.now.bytes.now g.self.now.levels l.i below)
          (span_at l.place) l.invariant.1 c.bit_of.result),
    )

pub returns : goal.returns
returns c =
    let e : c.loop-i.i ≡ c.args.k = omega arith in
    (rw e at c.loop-i.invariant.0, c.loop-i.invariant.1)
