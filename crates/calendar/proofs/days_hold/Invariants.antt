-- `days_hold`: document after document.
use Rattle.calendar.proofs.Checks.{Checked}
use Rattle.calendar.proofs.days_hold.Given as goal

abbrev pub invariant-loop-d : goal.invariant-loop-d
invariant-loop-d l = Checked l.documents l.days l.day l.d
