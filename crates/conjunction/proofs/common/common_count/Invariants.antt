use Rattle.paths.specs.Paths.{count_at}
use Rattle.conjunction.proofs.Counting.{Counting}
use Rattle.conjunction.proofs.common.common_count.Given as goal

abbrev pub invariant-loop-k : goal.invariant-loop-k
invariant-loop-k l = Counting (count_at l.path l.frame) l.size l.sum l.k
