use native.Mathlib.Nat.{le_refl}
use native.Mathlib.Omega.{arith}
use Rattle.wavelet.specs.Spans.{span}
use Rattle.wavelet.proofs.Halved.{middle_inside, middle_is}
use Rattle.wavelet.proofs.tree.Tree.rank_node.Goals as goal

pub overflow_add-result : goal.overflow_add-result
overflow_add-result c =
    let g = c.args in
    let l = c.requires.j_lt_height in
    let inside =
    middle_inside g.self.now g.j l.0 (span g.start g.start g.end g.end)
    (record { from = le_refl g.start; range = l.1; to = le_refl g.end; inside = l.2 }) c.map_end-all.ensures in
    omega (arith, inside, l.2, g.self.now.stored.few)

pub returns : goal.returns
returns c =
    let g = c.args in
    let l = c.requires.j_lt_height in
    let middle =
    middle_is g.self.now g.j l.0 (span g.start g.start g.end g.end)
    (record { from = le_refl g.start; range = l.1; to = le_refl g.end; inside = l.2 }) c.map_end-all.ensures in
    let before = c.ones-before.ensures.0 in
    λ i. record { start = g.start; end = g.end; before = before i; middle = middle i }
