use Prim.Native.Nat.{ℕ, ◌/◌, ◌^◌, ◌<◌}
use mathlib.Core.Path.{◌≡◌}
use lib.ListN.{get_or}
use Rattle.rank_set.proofs.sets.front_size.Given as goal

abbrev pub invariant-loop-size : goal.invariant-loop-size
invariant-loop-size l = (i : ℕ) → i < l.size → get_or l.set i 0 / 2 ^ l.bits ≡ get_or l.set 0 0 / 2 ^ l.bits
