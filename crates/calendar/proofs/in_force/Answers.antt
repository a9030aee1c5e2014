-- `in_force`: by the two tests.
use native.Mathlib.Omega.{arith}
use borrow.Author.Tests.{le-leb, lt-leb}
use Rattle.model.specs.Dated.{begins}
use Rattle.calendar.proofs.in_force.Goals as goal

pub returns-then-day-days : goal.returns-then-day-days
returns-then-day-days c = let s = c in rw (lt-leb (begins s.args.days.now s.args.d) s.args.day (omega arith))

pub returns : goal.returns
returns c = let s = c in rw (le-leb (begins s.args.days.now s.args.d) s.args.day (omega arith))
