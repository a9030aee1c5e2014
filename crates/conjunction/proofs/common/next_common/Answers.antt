use Prim.Native.Nat.{◌<◌}
use native.Mathlib.Omega.{arith}
use mathlib.Core.Path.{sym, ◌∙◌}
use Rattle.model.specs.Opening.{contents}
use Rattle.model.specs.Queries.{counts_under}
use Rattle.paths.specs.Query.{size, spans}
use Rattle.wavelet.proofs.Descents.{bits_lt, bits_le}
use Rattle.wavelet.proofs.Ranges.{node_few}
use Rattle.archive.proofs.Opened.{stored}
use Rattle.conjunction.proofs.Searches.{searching_start, past_less, searching_down, down_less, searching_none}
use Rattle.conjunction.proofs.SearchSteps.{step_past, step-whole, step-found}
use Rattle.conjunction.proofs.common.next_common.Goals as goal

pub resume-node-requires : goal.resume-node-requires
resume-node-requires c =
    let g = c.args in
    let low = (stored g.query.now.archive.bytes.now g.query.now.archive.layout g.query.now.archive.opened).low in
    (c.requires.path_len.1, low)

pub loop-node-init : goal.loop-node-init
loop-node-init c =
    let g = c.args in
    rw c.resume-node.ensures (searching_start (spans g.query.now) (size g.query.now) (counts_under (contents g.query.now.archive.bytes.now) g.query.now.terms.now) g.query.now.archive.layout.levels.height g.from g.path.now c.requires.path_len.0 c.requires.path_len.1 c.requires.ready)

pub overflow_shr-node : goal.overflow_shr-node
overflow_shr-node c =
    let g = c.args in
    let k = c.loop-node in
    let low = (stored g.query.now.archive.bytes.now g.query.now.archive.layout g.query.now.archive.opened).low in
    let d = k.invariant.stands.deep in
    omega arith

pub frame_of-requires : goal.frame_of-requires
frame_of-requires c =
    let g = c.args in
    let k = c.loop-node in
    let low = (stored g.query.now.archive.bytes.now g.query.now.archive.layout g.query.now.archive.opened).low in
    let d = k.invariant.stands.deep in
    omega arith

pub common_count-count-requires : goal.common_count-count-requires
common_count-count-requires c =
    let g = c.args in
    let k = c.loop-node in
    let low = (stored g.query.now.archive.bytes.now g.query.now.archive.layout g.query.now.archive.opened).low in
    let d = k.invariant.stands.deep in
    (k.invariant.room, omega (arith, c.frame_of.ensures), g.query.now.chosen.few)

pub after-node-requires : goal.after-node-requires
after-node-requires c =
    let g = c.args in
    let k = c.loop-node in
    let low = (stored g.query.now.archive.bytes.now g.query.now.archive.layout g.query.now.archive.opened).low in
    let m = bits_lt k.node.level k.node.number c.loop-node-test.true in
    let d = k.invariant.stands.deep in
    (m, omega arith)

pub loop-node-smaller-then-count-lt1 : goal.loop-node-smaller-then-count-lt1
loop-node-smaller-then-count-lt1 c =
    let g = c.args in
    let k = c.loop-node in
    let low = (stored g.query.now.archive.bytes.now g.query.now.archive.layout g.query.now.archive.opened).low in
    let m = bits_lt k.node.level k.node.number c.loop-node-test.true in
    rw c.after-node.ensures (past_less (spans g.query.now) (size g.query.now) (counts_under (contents g.query.now.archive.bytes.now) g.query.now.terms.now) g.query.now.archive.layout.levels.height g.from k.invariant m low)

pub loop-node-preserved-then-count-lt1 : goal.loop-node-preserved-then-count-lt1
loop-node-preserved-then-count-lt1 c =
    let g = c.args in
    let k = c.loop-node in
    let m = bits_lt k.node.level k.node.number c.loop-node-test.true in
    rw c.after-node.ensures (step_past g.query.now g.from k.invariant m c.frame_of.result c.frame_of.ensures c.common_count-count.result c.common_count-count.ensures (omega (arith, c.if-count-lt1.true)))

pub shape_of-path-then-level-height : goal.shape_of-path-then-level-height
shape_of-path-then-level-height c =
    let g = c.args in
    let k = c.loop-node in
    k.invariant.room ∙ sym c.requires.path_len.0

pub returns-then-level-height : goal.returns-then-level-height
returns-then-level-height c =
    let g = c.args in
    let k = c.loop-node in
    let m = bits_lt k.node.level k.node.number c.loop-node-test.true in
    step-found g.query.now g.from k.invariant m c.frame_of.result c.frame_of.ensures c.common_count-count.result c.common_count-count.ensures (λ z. omega (arith, c.if-count-lt1.false)) c.if-level-height.true

pub open_node-requires : goal.open_node-requires
open_node-requires c =
    let g = c.args in
    let k = c.loop-node in
    let low = (stored g.query.now.archive.bytes.now g.query.now.archive.layout g.query.now.archive.opened).low in
    let m = bits_lt k.node.level k.node.number c.loop-node-test.true in
    let d : k.node.level < g.query.now.archive.layout.levels.height = let e = k.invariant.stands.deep in omega (arith, c.if-level-height.false) in record {
      path_len = (k.invariant.room, d, omega arith, m);
      held = (k.invariant.held, step-whole g.query.now g.from k.invariant m c.frame_of.result c.frame_of.ensures c.common_count-count.result c.common_count-count.ensures (λ z. omega (arith, c.if-count-lt1.false)));
    }

pub overflow_add-node : goal.overflow_add-node
overflow_add-node c =
    let g = c.args in
    let k = c.loop-node in
    let low = (stored g.query.now.archive.bytes.now g.query.now.archive.layout g.query.now.archive.opened).low in
    let d = k.invariant.stands.deep in
    omega arith

pub overflow_mul-node : goal.overflow_mul-node
overflow_mul-node c =
    let g = c.args in
    let k = c.loop-node in
    let low = (stored g.query.now.archive.bytes.now g.query.now.archive.layout g.query.now.archive.opened).low in
    let m = bits_lt k.node.level k.node.number c.loop-node-test.true in
    omega (arith, node_few k.node.number k.node.level g.query.now.archive.layout.levels.height m k.invariant.stands.deep low)

pub loop-node-smaller : goal.loop-node-smaller
loop-node-smaller c =
    let g = c.args in
    let k = c.loop-node in
    let d : k.node.level < g.query.now.archive.layout.levels.height = let e = k.invariant.stands.deep in omega (arith, c.if-level-height.false) in
    down_less (spans g.query.now) (size g.query.now) (counts_under (contents g.query.now.archive.bytes.now) g.query.now.terms.now) g.query.now.archive.layout.levels.height g.from k.invariant d

pub loop-node-preserved : goal.loop-node-preserved
loop-node-preserved c =
    let g = c.args in
    let k = c.loop-node in
    let d : k.node.level < g.query.now.archive.layout.levels.height = let e = k.invariant.stands.deep in omega (arith, c.if-level-height.false) in
    let m = bits_lt k.node.level k.node.number c.loop-node-test.true in
    searching_down (spans g.query.now) (size g.query.now) (counts_under (contents g.query.now.archive.bytes.now) g.query.now.terms.now) g.query.now.archive.layout.levels.height g.from k.invariant d m c.open_node.new.path (c.open_node.auto.path ∙ k.invariant.room) c.open_node.ensures

pub shape_of-path : goal.shape_of-path
shape_of-path c =
    let g = c.args in
    let k = c.loop-node in
    k.invariant.room ∙ sym c.requires.path_len.0

pub returns : goal.returns
returns c =
    let g = c.args in
    let k = c.loop-node in
    (sym (searching_none (spans g.query.now) (size g.query.now) (counts_under (contents g.query.now.archive.bytes.now) g.query.now.terms.now) g.query.now.archive.layout.levels.height g.from k.invariant (bits_le k.node.level k.node.number c.loop-node-test.false)), tt)
