use mathlib.Core.Path.{◌≡◌}
use lib.ListN.{length}
use Prim.Native.Nat.{◌-◌}
use Rattle.model.specs.Opening.{contents}
use Rattle.paths.specs.Query.{size, spans}
use Rattle.conjunction.specs.Orders.{Ready}
use Rattle.conjunction.proofs.Walks.{Walking}
use Rattle.conjunction.proofs.conjunctions.conjunction_in.Given as goal

abbrev pub invariant-loop-next : goal.invariant-loop-next
invariant-loop-next l =
    Walking (contents l.query.archive.bytes.now) l.query.terms.now l.initial.answers l.at l.found l.answers
    × Ready (spans l.query) (size l.query) l.path l.query.archive.layout.levels.height l.at × (length l.path ≡ 468)

abbrev pub decreases-loop-next : goal.decreases-loop-next
decreases-loop-next l = l.query.archive.layout.documents - l.at
