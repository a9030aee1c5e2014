use mathlib.Core.Path.{refl, ◌∙◌}
use native.Mathlib.Omega.{arith}
use Rattle.wavelet.proofs.Ranges.{node_few}
use Rattle.conjunction.proofs.Searches.{odd_above, after_up, after-here}
use Rattle.conjunction.proofs.common.after.Goals as goal

pub loop-n-init : goal.loop-n-init
loop-n-init c = (c.requires.0, omega arith, refl)

pub overflow_sub-j : goal.overflow_sub-j
overflow_sub-j c = let k = c.loop-n in odd_above k.j k.n k.invariant.0 c.loop-n-test.true

pub loop-n-smaller : goal.loop-n-smaller
loop-n-smaller c = let k = c.loop-n in omega (arith, odd_above k.j k.n k.invariant.0 c.loop-n-test.true)

pub loop-n-preserved : goal.loop-n-preserved
loop-n-preserved c =
    let k = c.loop-n in
    let u = after_up k.j k.n k.invariant.0 c.loop-n-test.true in
    (u.0, omega (arith, k.invariant.1), u.1 ∙ k.invariant.2)

pub overflow_add-result : goal.overflow_add-result
overflow_add-result c =
    let k = c.loop-n in
    omega (arith, node_few k.n k.j c.args.level k.invariant.0 k.invariant.1 c.requires.1)

pub returns : goal.returns
returns c = let k = c.loop-n in after-here k.j k.n k.invariant.0 c.loop-n-test.false ∙ k.invariant.2
