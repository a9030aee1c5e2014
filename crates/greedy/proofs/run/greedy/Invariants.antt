-- `greedy`: the loop follows the course of the moves; at its end the answer is read off them.
use Rattle.moves.proofs.Course.{fuel_of}
use Rattle.moves.proofs.Searching.{Searching}
use Rattle.greedy.specs.Grounds.{ground_of}
use Rattle.greedy.proofs.run.greedy.Given as goal

abbrev pub invariant-loop-answers : goal.invariant-loop-answers
invariant-loop-answers l = Searching (ground_of l.s) l.k l.allowance l.initial.answers l.initial.work l.answers l.work l.p

abbrev pub decreases-loop-answers : goal.decreases-loop-answers
decreases-loop-answers l = fuel_of l.k l.allowance l.p
