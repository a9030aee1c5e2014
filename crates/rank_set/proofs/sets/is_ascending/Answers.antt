use native.Mathlib.Omega.{arith}
use Rattle.rank_set.proofs.Rising.{rising_next, rising_all, rising_broken}
use Rattle.rank_set.proofs.sets.is_ascending.Goals as goal

pub loop-i-init : goal.loop-i-init
loop-i-init c = (omega arith, λ i l. absurd (omega arith))

pub returns-then-set-i : goal.returns-then-set-i
returns-then-set-i c =
    let k = c in
    rising_broken k.args.set.now k.loop-i.i k.loop-i.invariant.0 (omega arith) c.if-set-i.true

pub loop-i-preserved : goal.loop-i-preserved
loop-i-preserved c =
    let k = c in
    (omega arith, rising_next k.args.set.now k.loop-i.i k.loop-i.invariant.1 c.if-set-i.false)

pub returns : goal.returns
returns c =
    let k = c in
    rising_all k.args.set.now k.loop-i.i k.loop-i.invariant.1 (omega arith)
