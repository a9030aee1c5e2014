-- `is_day`: by the limits, then the month, then 29 February.
use native.Mathlib.Omega.{arith}
use Prim.Native.Nat.{◌%◌}
use mathlib.Core.Path.{sym, ◌∙◌}
use borrow.Author.Tests.{le-leb, lt-leb}
use Rattle.model.specs.Calendar.{year_of, month_of, day_of, days_in}
use Rattle.calendar.proofs.Months.{is_within, common_within, leap_day, common_past}
use Rattle.calendar.proofs.is_day.Goals as goal

pub returns-then-x-lt20000101 : goal.returns-then-x-lt20000101
returns-then-x-lt20000101 c = let x = c.args.x in rw (lt-leb 20000101 x (omega arith))

pub returns-then-x-gt21991231 : goal.returns-then-x-gt21991231
returns-then-x-gt21991231 c =
    let x = c.args.x in
    rw (le-leb 20000101 x (omega arith), lt-leb x 21991231 (omega arith))

pub returns-then-day-eq0 : goal.returns-then-day-eq0
returns-then-day-eq0 c =
    let x = c.args.x in
    rw (le-leb 20000101 x (omega arith), le-leb x 21991231 (omega arith), lt-leb 1 (x % 100) (omega arith))

pub returns-then-day-common_days : goal.returns-then-day-common_days
returns-then-day-common_days c =
    let x = c.args.x in
    let l = common_within (year_of x) (month_of x) (day_of x) (omega (arith, c.common_days.ensures)) in
    sym (is_within x (omega arith) (omega arith) (omega arith) ∙ le-leb (day_of x) (days_in (year_of x) (month_of x)) l)

pub returns-then-x-eq229 : goal.returns-then-x-eq229
returns-then-x-eq229 c =
    let x = c.args.x in
    c.is_leap.ensures ∙ sym (is_within x (omega arith) (omega arith) (omega arith) ∙ leap_day (year_of x) (month_of x) (day_of x) (omega arith) (omega arith))

pub returns : goal.returns
returns c =
    let x = c.args.x in
    let l = common_past (year_of x) (month_of x) (day_of x) (omega (arith, c.common_days.ensures)) (λ e f. omega arith) in
    sym (is_within x (omega arith) (omega arith) (omega arith) ∙ lt-leb (day_of x) (days_in (year_of x) (month_of x)) l)
