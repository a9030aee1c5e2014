use Prim.Native.Nat.{◌+◌, ◌*◌, ◌/◌, ◌%◌, ◌^◌}
use native.Mathlib.Omega.{arith}
use mathlib.Core.Path.{◌∙◌}
use lib.ListN.{length-set}
use Rattle.wavelet.specs.declared.Span.{Span}
use Rattle.wavelet.specs.Levels.{level_of}
use Rattle.bitmaps.proofs.Alone.{block_inside, stored_alone}
use Rattle.bitmaps.proofs.fill.put_alone.Goals as goal

pub clear-requires : goal.clear-requires
clear-requires c =
    let g = c.args in
    let d = c.document_at-document in
    let x = block_inside g.tree.now.levels.height g.j g.blocks d.result c.requires.j_bound.0 c.requires.j_bound.1 d.ensures.0 in
    omega (arith, x, c.requires.j_bound.3)

pub bounds-masks-place : goal.bounds-masks-place
bounds-masks-place c =
    let g = c.args in
    let d = c.document_at-document in
    let x = block_inside g.tree.now.levels.height g.j g.blocks d.result c.requires.j_bound.0 c.requires.j_bound.1 d.ensures.0 in
    omega (arith, x, c.requires.j_bound.3, c.clear.auto.masks)

pub overflow_sub-blocks : goal.overflow_sub-blocks
overflow_sub-blocks c =
    let g = c.args in
    let d = c.document_at-document in
    let x = block_inside g.tree.now.levels.height g.j g.blocks d.result c.requires.j_bound.0 c.requires.j_bound.1 d.ensures.0 in
    omega (arith, x)

pub overflow_sub-blocks-2 : goal.overflow_sub-blocks-2
overflow_sub-blocks-2 c =
    let g = c.args in
    let d = c.document_at-document in
    let x = block_inside g.tree.now.levels.height g.j g.blocks d.result c.requires.j_bound.0 c.requires.j_bound.1 d.ensures.0 in
    omega (arith, x)

pub clear-requires-2 : goal.clear-requires-2
clear-requires-2 c =
    let g = c.args in
    let d = c.document_at-document in
    let x = block_inside g.tree.now.levels.height g.j g.blocks d.result c.requires.j_bound.0 c.requires.j_bound.1 d.ensures.0 in
    let k = c.clear in
    simp length-set (omega (arith, x, c.requires.j_bound.3, k.auto.masks))

pub shape_of-masks : goal.shape_of-masks
shape_of-masks c =
    let g = c.args in
    let d = c.document_at-document.result in
    let first = c.clear in
    c.clear-2.auto.masks ∙ length-set first.new.masks (g.place + d / 64) (1 * 2 ^ (d % 64) % 2 ^ 64) ∙ first.auto.masks

pub returns : goal.returns
returns c =
    let g = c.args in
    let n : Span = record { start = g.start; lo = g.p; hi = g.p + 1; end = g.end } in
    let d = c.document_at-document in
    let first = c.clear in
    let second = c.clear-2 in
    stored_alone g.tree.now.levels.height g.j g.blocks d.result c.requires.j_bound.0 c.requires.j_bound.1 d.ensures.0 (level_of g.tree.now.bytes.now g.tree.now.levels) n d.ensures.1 g.place
    g.masks.now first.new.masks second.new.masks first.ensures second.ensures
