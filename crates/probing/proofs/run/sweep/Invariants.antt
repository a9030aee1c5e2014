-- `sweep`: one probe a turn.
use Rattle.model.specs.Queries.{pairs_in}
use Rattle.model.proofs.Probing.Rounds.{Sweeping}
use Rattle.search.specs.Sought.{range_of}
use Rattle.probing.specs.Candidates.{SameSlice}
use Rattle.probing.specs.Slices.{marked, Kept}
use Rattle.probing.proofs.run.sweep.Given as goal

abbrev pub invariant-loop-r : goal.invariant-loop-r
invariant-loop-r l =
    Sweeping l.s.documents l.fn.candidates.k (range_of l.s) l.g l.r (marked l.s.documents l.work) (pairs_in l.candidates.answers.now l.candidates.held)
    × Kept l.s.documents l.fn.candidates.held l.candidates.held l.fn.work l.fn.candidates.answers.now l.work l.candidates.answers.now
    × SameSlice l.fn.candidates l.candidates
