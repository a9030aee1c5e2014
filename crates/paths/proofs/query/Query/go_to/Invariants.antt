use Rattle.paths.specs.Query.{size, passes}
use Rattle.paths.specs.Paths.{Whole}
use Rattle.paths.proofs.Ways.{Going}
use Rattle.paths.proofs.query.Query.go_to.Given as goal

abbrev pub invariant-loop-j : goal.invariant-loop-j
invariant-loop-j l =
    Going (Whole (passes l.self) (size l.self)) l.path l.to l.j
