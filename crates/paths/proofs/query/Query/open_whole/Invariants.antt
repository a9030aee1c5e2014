use Rattle.paths.specs.Query.{size, passes}
use Rattle.paths.specs.Paths.{HeldWhole}
use Rattle.paths.proofs.Openings.{Filling}
use Rattle.paths.proofs.query.Query.open_whole.Given as goal

abbrev pub invariant-loop-k : goal.invariant-loop-k
invariant-loop-k l =
    Filling (passes l.self) (size l.self) l.level l.number l.path l.k
    × HeldWhole (passes l.self) (size l.self) l.path l.level l.number
