-- The days of a year by month and day, four digits: what the table of the code holds.
use Rattle.std.specs.Prelude.{ℕ, ◌/◌, ◌%◌, List, map, Bool, cond, ◌&&◌, leb, eqb}
use Rattle.bits.specs.Sequences.{below}
use Rattle.model.specs.Calendar.{year_of, month_of, day_of, days_in}

-- the byte of a month and day: `d` for a day of every year, as 2001 is one, `l` for 29 February and a point for no day
unfoldable pub kind_of : ℕ → ℕ
kind_of p = cond (leb 1 (p % 100) && leb (p % 100) (days_in 2001 (p / 100))) 100 (cond (eqb p 229) 108 46)

-- of months 0 to 12: there is no day in any other
unfoldable pub kinds : List ℕ
kinds = map kind_of (below 1300)

-- month and day of a number are of its year
abbrev pub in_year : ℕ → Bool
in_year x = leb 1 (day_of x) && leb (day_of x) (days_in (year_of x) (month_of x))
