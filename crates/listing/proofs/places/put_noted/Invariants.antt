-- `put_noted`: the invariant, that the pairs from number i on have their places.
use Prim.Native.Nat.{◌≤◌}
use lib.ListN.{get_or}
use Rattle.answers.specs.Spread.{Spread}
use Rattle.listing.proofs.places.put_noted.Given as goal

abbrev pub invariant-loop-i : goal.invariant-loop-i
invariant-loop-i l = (l.i ≤ l.n) × Spread (λ d. get_or l.first d 0) l.n l.i l.initial.answers l.answers
