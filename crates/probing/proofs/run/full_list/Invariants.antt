-- `full_list`: one round a turn; where no other is to come, the candidates are the full list.
use Prim.Native.Nat.{◌^◌, ◌<◌}
use mathlib.Core.Path.{◌≡◌}
use Rattle.model.specs.Probing.{Swept}
use Rattle.model.specs.Queries.{pairs_in}
use Rattle.search.specs.Sought.{range_of}
use Rattle.probing.specs.Candidates.{SameSlice}
use Rattle.probing.specs.Slices.{marked, Lent, Kept, Power}
use Rattle.probing.proofs.run.full_list.Given as goal

abbrev pub invariant-loop-g : goal.invariant-loop-g
invariant-loop-g l =
    Swept l.s.documents l.k (range_of l.s) l.g (marked l.s.documents l.work) (pairs_in l.candidates.answers.now l.candidates.held) × Power l.g × ((0 < l.g) × (l.g < 2 ^ 16))
    × Kept l.s.documents l.initial.candidates.held l.candidates.held l.initial.work l.initial.candidates.answers.now l.work l.candidates.answers.now
    × Lent l.s.documents l.k (range_of l.s) l.work l.candidates.answers.now × (l.candidates.k ≡ l.k) × SameSlice l.initial.candidates l.candidates

abbrev pub decreases-loop-g : goal.decreases-loop-g
decreases-loop-g l = l.g
