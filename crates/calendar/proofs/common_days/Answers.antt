-- `common_days`: the table has them.
use native.Mathlib.Omega.{arith}
use mathlib.Core.Path.{sym}
use Rattle.model.proofs.Calendar.{days_in_past}
use Rattle.calendar.proofs.Months.{table_is}
use Rattle.calendar.proofs.common_days.Goals as goal

pub returns-then-month-gt12 : goal.returns-then-month-gt12
returns-then-month-gt12 c = sym (days_in_past 2001 c.args.month (omega arith))

pub returns : goal.returns
returns c = table_is c.args.month
