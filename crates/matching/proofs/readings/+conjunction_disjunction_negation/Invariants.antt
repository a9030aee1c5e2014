-- The cycle of calls {conjunction, disjunction, negation}. The measure of each is three for a number that is left, plus its level:
-- a call at the same place goes down a level, and a call at a later place has fewer numbers left.
-- Assumes nothing.
use Rattle.std.proofs.Common.{◌+◌, ◌-◌, ◌*◌, length}
use Rattle.matching.specs.Sets.{set_at}
use Rattle.matching.proofs.PartsRead.{left, Conjoining, Disjoining}
use Rattle.matching.proofs.readings.+conjunction_disjunction_negation.Given as goal

abbrev pub decreases-conjunction : goal.decreases-conjunction
decreases-conjunction l = 3 * (length l.question.now - l.at) + 1

abbrev pub decreases-disjunction : goal.decreases-disjunction
decreases-disjunction l = 3 * (length l.question.now - l.at) + 2

abbrev pub decreases-negation : goal.decreases-negation
decreases-negation l = 3 * (length l.question.now - l.at)

abbrev pub invariant-conjunction-loop-second : goal.invariant-conjunction-loop-second
invariant-conjunction-loop-second l = Conjoining (set_at l.masks l.block) l.question l.at l.deeper l.parse

abbrev pub decreases-conjunction-loop-second : goal.decreases-conjunction-loop-second
decreases-conjunction-loop-second l = left l.question l.parse

abbrev pub invariant-disjunction-loop-second : goal.invariant-disjunction-loop-second
invariant-disjunction-loop-second l = Disjoining (set_at l.masks l.block) l.question l.at l.deeper l.parse

abbrev pub decreases-disjunction-loop-second : goal.decreases-disjunction-loop-second
decreases-disjunction-loop-second l = left l.question l.parse
