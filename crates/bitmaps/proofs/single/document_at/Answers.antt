use Prim.Native.Nat.{◌-◌}
use native.Mathlib.Omega.{arith}
use mathlib.Core.Path.{◌≡◌}
use Rattle.bitmaps.proofs.Followed.{followed_none, followed_few, followed_next, followed_last}
use Rattle.bitmaps.proofs.single.document_at.Goals as goal

pub loop-i-init : goal.loop-i-init
loop-i-init c =
    let g = c.args in
    followed_none g.tree.now.bytes.now g.tree.now.levels g.j g.start g.p g.end (omega (arith, c.requires.j_lt_height.0)) c.requires.j_lt_height.1

pub bit-b-requires : goal.bit-b-requires
bit-b-requires c =
    let f = c.loop-i.invariant in record { j_lt_height = (omega arith, omega (arith, f.ordered.to, f.ordered.inside)) }

pub step-place-requires : goal.step-place-requires
step-place-requires c =
    let o = c.loop-i.invariant.ordered in record {
      j_lt_height = (omega arith, record { from = o.from; range = omega arith; to = omega (arith, o.to); inside = o.inside });
    }

pub overflow_mul-document : goal.overflow_mul-document
overflow_mul-document c =
    let g = c.args in
    omega (arith, followed_few g.tree.now.bytes.now g.tree.now.levels g.j g.start g.p g.end c.loop-i.invariant g.tree.now.stored.low)

pub overflow_add-document : goal.overflow_add-document
overflow_add-document c =
    let g = c.args in
    omega (arith, followed_few g.tree.now.bytes.now g.tree.now.levels g.j g.start g.p g.end c.loop-i.invariant g.tree.now.stored.low)

pub loop-i-preserved : goal.loop-i-preserved
loop-i-preserved c =
    let g = c.args in
    let b = c.bit-b in
    followed_next g.tree.now.bytes.now g.tree.now.levels g.j g.start g.p g.end c.loop-i.invariant (omega arith) c.step-place.result b.result b.ensures.1 b.ensures.0
    c.step-place.ensures

pub overflow_mul-result : goal.overflow_mul-result
overflow_mul-result c =
    let g = c.args in
    omega (arith, followed_few g.tree.now.bytes.now g.tree.now.levels g.j g.start g.p g.end c.loop-i.invariant g.tree.now.stored.low)

pub bit-requires : goal.bit-requires
bit-requires c =
    let f = c.loop-i.invariant in record { j_lt_height = (omega arith, omega (arith, f.ordered.to, f.ordered.inside)) }

pub overflow_add-result : goal.overflow_add-result
overflow_add-result c =
    let g = c.args in
    omega (arith, followed_few g.tree.now.bytes.now g.tree.now.levels g.j g.start g.p g.end c.loop-i.invariant g.tree.now.stored.low)

pub returns : goal.returns
returns c =
    let g = c.args in
    let b = c.bit in
    let last : c.loop-i.i ≡ g.tree.now.levels.height - 1 = omega arith in
    followed_last g.tree.now.bytes.now g.tree.now.levels g.j g.start g.p g.end (rw last at c.loop-i.invariant) (omega arith) (omega arith) b.result b.ensures.1 b.ensures.0
