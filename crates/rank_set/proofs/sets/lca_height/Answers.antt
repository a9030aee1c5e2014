use native.Mathlib.Omega.{arith}
use Rattle.rank_set.proofs.Agreeing.{apart_low, apart_next, apart_least}
use Rattle.rank_set.proofs.sets.lca_height.Goals as goal

pub loop-height-init : goal.loop-height-init
loop-height-init c = (omega arith, λ k l. absurd (omega arith))

pub overflow_add-height : goal.overflow_add-height
overflow_add-height c =
    let k = c in
    let g = k.args in
    let low = apart_low g.x g.y k.loop-height.height k.requires.0 k.requires.1 k.loop-height.invariant.0 c.loop-height-test.true in
    omega (arith, low)

pub loop-height-smaller : goal.loop-height-smaller
loop-height-smaller c =
    let k = c in
    let g = k.args in
    let low = apart_low g.x g.y k.loop-height.height k.requires.0 k.requires.1 k.loop-height.invariant.0 c.loop-height-test.true in
    omega (arith, low)

pub loop-height-preserved : goal.loop-height-preserved
loop-height-preserved c =
    let k = c in
    let g = k.args in
    let low = apart_low g.x g.y k.loop-height.height k.requires.0 k.requires.1 k.loop-height.invariant.0 c.loop-height-test.true in
    (omega (arith, low), apart_next g.x g.y k.loop-height.height k.loop-height.invariant.1 c.loop-height-test.true)

pub returns : goal.returns
returns c =
    let k = c in
    let g = k.args in
    (c.loop-height-test.false, apart_least g.x g.y k.loop-height.height k.loop-height.invariant.1)
