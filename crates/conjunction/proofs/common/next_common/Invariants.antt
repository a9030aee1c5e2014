use Rattle.model.specs.Opening.{contents}
use Rattle.model.specs.Queries.{counts_under}
use Rattle.paths.specs.Query.{size, spans}
use Rattle.conjunction.proofs.Searches.{Searching, left}
use Rattle.conjunction.proofs.common.next_common.Given as goal

abbrev pub invariant-loop-node : goal.invariant-loop-node
invariant-loop-node l =
    Searching (spans l.query) (size l.query) (counts_under (contents l.query.archive.bytes.now) l.query.terms.now) l.query.archive.layout.levels.height l.from l.path l.node

abbrev pub decreases-loop-node : goal.decreases-loop-node
decreases-loop-node l =
    left (spans l.query) (size l.query) (counts_under (contents l.query.archive.bytes.now) l.query.terms.now) l.query.archive.layout.levels.height l.from l.node
