-- Worked cases of the calendar, document 02, M-109, proved on the definitions: the parts of a number, leap years, both ends of each month and of the limits, and
-- the day after a day.
use Rattle.std.specs.Prelude.{ℕ, ◌≡◌, refl, List, [], ◌∷◌, map, true, false, replicate}
use Rattle.bits.specs.Sequences.{below}
use Rattle.model.specs.Calendar.{year_of, month_of, day_of, number_of, leap, days_in, first_day, last_day, is_day, day_after}

-- ---- year, month and day

abbrev numbers : List ℕ
numbers = 0 ∷ 99 ∷ 100 ∷ 9999 ∷ 10000 ∷ 20000101 ∷ 20240229 ∷ 20231130 ∷ 21991231 ∷ []

pub years : map year_of numbers ≡ 0 ∷ 0 ∷ 0 ∷ 0 ∷ 1 ∷ 2000 ∷ 2024 ∷ 2023 ∷ 2199 ∷ []
years = refl

pub months : map month_of numbers ≡ 0 ∷ 0 ∷ 1 ∷ 99 ∷ 0 ∷ 1 ∷ 2 ∷ 11 ∷ 12 ∷ []
months = refl

pub days : map day_of numbers ≡ 0 ∷ 99 ∷ 0 ∷ 99 ∷ 0 ∷ 1 ∷ 29 ∷ 30 ∷ 31 ∷ []
days = refl

pub written : number_of 2000 1 1 ∷ number_of 2024 2 29 ∷ number_of 2199 12 31 ∷ [] ≡ 20000101 ∷ 20240229 ∷ 21991231 ∷ []
written = refl

-- ---- leap years

-- each fourth year, and each fourth that ends a century
pub leap_years : map leap (2000 ∷ 2004 ∷ 2020 ∷ 2024 ∷ 2040 ∷ 2096 ∷ 2104 ∷ 2196 ∷ 2400 ∷ []) ≡ replicate 9 true
leap_years = refl

pub common_years : map leap (2001 ∷ 2002 ∷ 2003 ∷ 2022 ∷ 2023 ∷ 2025 ∷ 1900 ∷ 2100 ∷ 2200 ∷ 2300 ∷ []) ≡ replicate 10 false
common_years = refl

-- ---- months

-- from month 0 to month 13: neither is one
pub common_months : map (days_in 2023) (below 14) ≡ 0 ∷ 31 ∷ 28 ∷ 31 ∷ 30 ∷ 31 ∷ 30 ∷ 31 ∷ 31 ∷ 30 ∷ 31 ∷ 30 ∷ 31 ∷ 0 ∷ []
unfolding days_in
common_months = refl

pub leap_months : map (days_in 2024) (below 14) ≡ 0 ∷ 31 ∷ 29 ∷ 31 ∷ 30 ∷ 31 ∷ 30 ∷ 31 ∷ 31 ∷ 30 ∷ 31 ∷ 30 ∷ 31 ∷ 0 ∷ []
unfolding days_in
leap_months = refl

-- years that end a century
pub februaries : days_in 2000 2 ∷ days_in 2100 2 ∷ [] ≡ 29 ∷ 28 ∷ []
unfolding days_in
februaries = refl

-- ---- days

pub limits : first_day ∷ last_day ∷ [] ≡ 20000101 ∷ 21991231 ∷ []
limits = refl

pub within : map is_day (20000101 ∷ 20000102 ∷ 21991230 ∷ 21991231 ∷ []) ≡ replicate 4 true
unfolding days_in
within = refl

-- the numbers beside the limits; days of the calendar before and after them; numbers that are none
pub outside : map is_day (20000100 ∷ 19991231 ∷ 21991232 ∷ 22000101 ∷ 19960229 ∷ 22040229 ∷ 0 ∷ 1 ∷ 101 ∷ 1231 ∷ 4294967295 ∷ []) ≡ replicate 11 false
unfolding days_in
outside = refl

-- the first of each month and its last, and the numbers beside them, in a common year
pub common_firsts : map is_day (20230101 ∷ 20230201 ∷ 20230301 ∷ 20230401 ∷ 20230501 ∷ 20230601 ∷ 20230701 ∷ 20230801 ∷ 20230901 ∷ 20231001 ∷ 20231101 ∷ 20231201 ∷ []) ≡ replicate 12 true
unfolding days_in
common_firsts = refl

pub common_zeros : map is_day (20230100 ∷ 20230200 ∷ 20230300 ∷ 20230400 ∷ 20230500 ∷ 20230600 ∷ 20230700 ∷ 20230800 ∷ 20230900 ∷ 20231000 ∷ 20231100 ∷ 20231200 ∷ []) ≡ replicate 12 false
unfolding days_in
common_zeros = refl

pub common_lasts : map is_day (20230131 ∷ 20230228 ∷ 20230331 ∷ 20230430 ∷ 20230531 ∷ 20230630 ∷ 20230731 ∷ 20230831 ∷ 20230930 ∷ 20231031 ∷ 20231130 ∷ 20231231 ∷ []) ≡ replicate 12 true
unfolding days_in
common_lasts = refl

pub common_past : map is_day (20230132 ∷ 20230229 ∷ 20230332 ∷ 20230431 ∷ 20230532 ∷ 20230631 ∷ 20230732 ∷ 20230832 ∷ 20230931 ∷ 20231032 ∷ 20231131 ∷ 20231232 ∷ []) ≡ replicate 12 false
unfolding days_in
common_past = refl

-- .. and in a leap year
pub leap_firsts : map is_day (20240101 ∷ 20240201 ∷ 20240301 ∷ 20240401 ∷ 20240501 ∷ 20240601 ∷ 20240701 ∷ 20240801 ∷ 20240901 ∷ 20241001 ∷ 20241101 ∷ 20241201 ∷ []) ≡ replicate 12 true
unfolding days_in
leap_firsts = refl

pub leap_zeros : map is_day (20240100 ∷ 20240200 ∷ 20240300 ∷ 20240400 ∷ 20240500 ∷ 20240600 ∷ 20240700 ∷ 20240800 ∷ 20240900 ∷ 20241000 ∷ 20241100 ∷ 20241200 ∷ []) ≡ replicate 12 false
unfolding days_in
leap_zeros = refl

pub leap_lasts : map is_day (20240131 ∷ 20240229 ∷ 20240331 ∷ 20240430 ∷ 20240531 ∷ 20240630 ∷ 20240731 ∷ 20240831 ∷ 20240930 ∷ 20241031 ∷ 20241130 ∷ 20241231 ∷ []) ≡ replicate 12 true
unfolding days_in
leap_lasts = refl

pub leap_past : map is_day (20240132 ∷ 20240230 ∷ 20240332 ∷ 20240431 ∷ 20240532 ∷ 20240631 ∷ 20240732 ∷ 20240832 ∷ 20240931 ∷ 20241032 ∷ 20241131 ∷ 20241232 ∷ []) ≡ replicate 12 false
unfolding days_in
leap_past = refl

-- months 0, 13, 20 and 99
pub no_months : map is_day (20240001 ∷ 20240031 ∷ 20241300 ∷ 20241301 ∷ 20241331 ∷ 20242001 ∷ 20249901 ∷ 20249999 ∷ []) ≡ replicate 8 false
unfolding days_in
no_months = refl

-- 29 February
pub leap_days : map is_day (20000229 ∷ 20040229 ∷ 20240229 ∷ 20960229 ∷ 21040229 ∷ 21960229 ∷ []) ≡ replicate 6 true
unfolding days_in
leap_days = refl

-- "not in that calendar (21000229)"
pub no_leap_days : map is_day (21000229 ∷ 20010229 ∷ 20020229 ∷ 20030229 ∷ 20990229 ∷ 21010229 ∷ 21990229 ∷ 20000230 ∷ 21000230 ∷ []) ≡ replicate 9 false
unfolding days_in
no_leap_days = refl

-- ---- the day after

-- "21000228 is followed by 21000301"; the ends of other Februaries
pub after_february : map day_after (21000228 ∷ 20000228 ∷ 20000229 ∷ 20230228 ∷ 20240228 ∷ 20240229 ∷ []) ≡ 21000301 ∷ 20000229 ∷ 20000301 ∷ 20230301 ∷ 20240229 ∷ 20240301 ∷ []
unfolding days_in
after_february = refl

-- in a month; from month to month
pub after_day : map day_after (20000101 ∷ 20240109 ∷ 20240130 ∷ 20240131 ∷ 20240430 ∷ 20231130 ∷ 21991230 ∷ []) ≡ 20000102 ∷ 20240110 ∷ 20240131 ∷ 20240201 ∷ 20240501 ∷ 20231201 ∷ 21991231 ∷ []
unfolding days_in
after_day = refl

-- .. and from year to year
pub after_year : map day_after (20231231 ∷ 20991231 ∷ 20001231 ∷ []) ≡ 20240101 ∷ 21000101 ∷ 20010101 ∷ []
unfolding days_in
after_year = refl
