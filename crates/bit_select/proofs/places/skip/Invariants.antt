use Prim.Native.Nat.{◌+◌, ◌*◌}
use Rattle.bit_select.specs.Search.{Reached}
use Rattle.bit_select.proofs.places.skip.Given as goal

abbrev pub invariant-loop-i : goal.invariant-loop-i
invariant-loop-i l = Reached l.row l.v l.j (8 * (l.from.byte + l.w * l.i)) l.before
