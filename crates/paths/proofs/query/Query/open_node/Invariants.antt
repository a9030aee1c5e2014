use Rattle.paths.specs.Query.{size, spans}
use Rattle.paths.proofs.Openings.{Opening}
use Rattle.paths.proofs.query.Query.open_node.Given as goal

abbrev pub invariant-loop-k : goal.invariant-loop-k
invariant-loop-k l =
    Opening (spans l.self) (size l.self) l.level l.number l.path l.zero l.one l.k
