-- `after_nots` meets its contract; a 'not' stands within the question, so the work stops.
use Prim.Native.Nat.{ℕ, ◌-◌, ◌≤◌, ◌<◌}
use mathlib.Core.Path.{◌≡◌}
use lib.ListN.{length}
use Rattle.matching.specs.Parsing.{number_at}
use Rattle.matching.proofs.parts.after_nots.Given as goal

abbrev pub invariant-loop-place : goal.invariant-loop-place
invariant-loop-place l = (l.at ≤ l.place) × ((i : ℕ) → l.at ≤ i → i < l.place → number_at l.question i ≡ 60002)

abbrev pub decreases-loop-place : goal.decreases-loop-place
decreases-loop-place l = length l.question - l.place
