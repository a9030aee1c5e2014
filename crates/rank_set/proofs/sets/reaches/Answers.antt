use Prim.Native.Nat.{◌-◌}
use native.Mathlib.Omega.{arith}
use lib.ListN.{length}
use Rattle.rank_set.proofs.Rising.{reaches_last, reaches_none}
use Rattle.rank_set.proofs.sets.reaches.Goals as goal

pub returns-then-set-eq0 : goal.returns-then-set-eq0
returns-then-set-eq0 c = reaches_none c.args.set.now c.args.limit c.if-set-eq0.true

pub overflow_cast-result : goal.overflow_cast-result
overflow_cast-result c = omega (arith, (c.type_inv.set (length c.args.set.now - 1)).fits)

pub returns : goal.returns
returns c =
    let s = c in
    reaches_last s.args.set.now s.args.limit s.requires (omega (arith, c.if-set-eq0.false))
