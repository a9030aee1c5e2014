-- `is_leap`: by the three remainders.
use native.Mathlib.Omega.{arith}
use borrow.Author.Tests.{eq-eqb, ne_eqb}
use Prim.Native.Nat.{◌%◌}
use Rattle.calendar.proofs.is_leap.Goals as goal

pub returns-then-year-eq0-2 : goal.returns-then-year-eq0-2
returns-then-year-eq0-2 c = let y = c.args.year in rw (eq-eqb (y % 4) 0 (omega arith), eq-eqb (y % 100) 0 (omega arith))

pub returns-then-year-eq0 : goal.returns-then-year-eq0
returns-then-year-eq0 c = let y = c.args.year in rw (eq-eqb (y % 4) 0 (omega arith), ne_eqb (y % 100) 0 (omega arith))

pub returns : goal.returns
returns c = let y = c.args.year in rw (ne_eqb (y % 4) 0 (omega arith))
