-- `weighted_in`: the loop follows the course of the moves; at its end the answer is read off them.
use Rattle.moves.proofs.Course.{fuel_of}
use Rattle.moves.proofs.Searching.{Searching}
use Rattle.weighted.specs.Grounds.{ground_of}
use Rattle.weighted.specs.Steps.{Leads}
use Rattle.weighted.proofs.run.weighted_in.Given as goal

abbrev pub invariant-loop-asking : goal.invariant-loop-asking
invariant-loop-asking l =
    Searching (ground_of l.query) l.k l.allowance l.initial.answers l.initial.work l.answers l.work l.p × Leads l.query l.path l.at

abbrev pub decreases-loop-asking : goal.decreases-loop-asking
decreases-loop-asking l = fuel_of l.k l.allowance l.p
