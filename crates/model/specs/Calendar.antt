-- The calendar of the dated questions. Document 02, M-109: days as decimal numbers of year, month and day, in the Gregorian calendar of ISO 8601.
use Rattle.std.specs.Prelude.{ℕ, ◌+◌, ◌-◌, ◌*◌, ◌/◌, ◌%◌, List, [], ◌∷◌, Bool, cond, not, ◌&&◌, ◌||◌, get_or, leb, ltb, eqb}

-- ---- "a decimal number of year, month and day"

abbrev pub year_of : ℕ → ℕ
year_of x = x / 10000

abbrev pub month_of : ℕ → ℕ
month_of x = x / 100 % 100

abbrev pub day_of : ℕ → ℕ
day_of x = x % 100

abbrev pub number_of : ℕ → ℕ → ℕ → ℕ
number_of year month day = year * 10000 + month * 100 + day

-- ---- "the Gregorian calendar of ISO 8601"

-- each fourth year is a leap year, but of the years that end a century each fourth alone
abbrev pub leap : ℕ → Bool
leap year = eqb (year % 4) 0 && (not (eqb (year % 100) 0) || eqb (year % 400) 0)

abbrev pub month_lengths : ℕ → List ℕ
month_lengths february = 31 ∷ february ∷ 31 ∷ 30 ∷ 31 ∷ 30 ∷ 31 ∷ 31 ∷ 30 ∷ 31 ∷ 30 ∷ 31 ∷ []

-- how many days a month has. Months count from 1, and there is no day in any other
unfoldable pub days_in : ℕ → ℕ → ℕ
days_in year month = cond (eqb month 0) 0 (get_or (month_lengths (cond (leap year) 29 28)) (month - 1) 0)

-- ---- "from 20000101 to 21991231"

abbrev pub first_day : ℕ
first_day = 20000101

abbrev pub last_day : ℕ
last_day = 21991231

-- a day of the calendar within these limits
abbrev pub is_day : ℕ → Bool
is_day x = (leb first_day x && leb x last_day) && (leb 1 (day_of x) && leb (day_of x) (days_in (year_of x) (month_of x)))

-- ---- "21000228 is followed by 21000301"

-- the day after a day: the next of its month, or the first of the next month or of the next year. `proofs/Calendar`: it is the next larger day
abbrev pub day_after : ℕ → ℕ
day_after x =
    cond (ltb (day_of x) (days_in (year_of x) (month_of x))) (x + 1)
    (cond (ltb (month_of x) 12) (number_of (year_of x) (month_of x + 1) 1) (number_of (year_of x + 1) 1 1))
