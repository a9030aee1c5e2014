use Rattle.paths.specs.Query.{size, spans}
use Rattle.paths.proofs.Roots.{Rooting}
use Rattle.paths.proofs.query.Query.put_root.Given as goal

abbrev pub invariant-loop-k : goal.invariant-loop-k
invariant-loop-k l = Rooting (spans l.self) (size l.self) l.self.archive.layout.levels.entries l.path l.k
