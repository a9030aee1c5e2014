-- `answer_all`: the lines that are left become shorter.
use lib.ListN.{length}
use Rattle.cases.proofs.answer_all.Given as goal

abbrev pub decreases-loop-line : goal.decreases-loop-line
decreases-loop-line l = length l.rest
