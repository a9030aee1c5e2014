use Prim.Native.Nat.{◌<◌}
use Rattle.rank_set.proofs.Rising.{Rising}
use Rattle.rank_set.proofs.sets.is_ascending.Given as goal

abbrev pub invariant-loop-i : goal.invariant-loop-i
invariant-loop-i l = (0 < l.i) × Rising l.set l.i
