use lib.ListN.{get_or}
use Rattle.paths.specs.Paths.{count_at}
use Rattle.weighted.proofs.Totals.{Adding}
use Rattle.weighted.proofs.score.score_of.Given as goal

abbrev pub invariant-loop-k : goal.invariant-loop-k
invariant-loop-k l =
    Adding (λ i. get_or l.weights i 0) (count_at l.path l.frame) l.size l.score l.entries l.k
