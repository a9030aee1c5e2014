-- The days of a month by those of a common year, and 29 February.
use Prim.Native.Nat.{ℕ, zero, suc, ◌-◌, ◌≤◌, ◌<◌}
use native.Mathlib.Omega.{arith}
use mathlib.Core.Path.{◌≡◌, refl, ap, ◌∙◌}
use mathlib.Core.Logic.{◌⊎◌, inl, inr}
use mathlib.Core.List.{◌∷◌}
use mathlib.Core.Bool.{Bool, true, false, cond}
use lib.ListN.{get_or}
use lib.Dec.{leb, eqb}
use borrow.Author.Tests.{le-leb, eqb-true, ne_eqb}
use Rattle.bits.proofs.Tests.{look}
use Rattle.model.specs.Calendar.{year_of, month_of, day_of, leap, month_lengths, days_in, first_day, last_day, is_day}
use Rattle.model.proofs.Calendar.{days_in-common, days_in-leap}

-- the table: no day in month 0, and then the lengths of the months
pub table_is : (m : ℕ) → get_or (0 ∷ month_lengths 28) m 0 ≡ days_in 2001 m
unfolding days_in
table_is zero = refl
table_is (suc m) =
    let s : suc m - 1 ≡ m = omega arith in
    rw (ne_eqb (suc m) 0 (omega arith), s) refl

february : days_in 2001 2 ≡ 28
unfolding days_in
february = refl

-- a month has as many days as in a common year; or it is February of a leap year
abbrev AsCommon : ℕ → ℕ → Type 0
AsCommon year m = (days_in year m ≡ days_in 2001 m) ⊎ ((m ≡ 2) × (days_in year m ≡ 29))

as_common : (year m : ℕ) → AsCommon year m
as_common year m = go (look (leap year)) (look (eqb m 2))
  where
    go : (leap year ≡ true) ⊎ (leap year ≡ false) → (eqb m 2 ≡ true) ⊎ (eqb m 2 ≡ false) → AsCommon year m
    go (inl e) (inl f) = inr (eqb-true m 2 f, days_in-leap year m e ∙ rw f)
    go (inl e) (inr f) = inl (days_in-leap year m e ∙ rw f)
    go (inr e) f = inl (days_in-common year m e)

-- a day of a common year is one of every year
pub common_within : (year m d : ℕ) → d ≤ days_in 2001 m → d ≤ days_in year m
common_within year m d l = go (as_common year m)
  where
    go : AsCommon year m → d ≤ days_in year m
    go (inl e) = omega arith
    go (inr (e, f)) = omega (arith, ap (days_in 2001) e, february)

-- 29 February is one of leap years alone
pub leap_day : (year m d : ℕ) → m ≡ 2 → d ≡ 29 → leb d (days_in year m) ≡ leap year
unfolding days_in
leap_day year m d e f = rw (e, f) (go (leap year))
  where
    go : (b : Bool) → leb 29 (cond b 29 28) ≡ b
    go true = refl
    go false = refl

-- what else a common year lacks is no day of any year
pub common_past : (year m d : ℕ) → days_in 2001 m < d → (m ≡ 2 → d ≡ 29 → ⊥) → days_in year m < d
common_past year m d l n = go (as_common year m)
  where
    go : AsCommon year m → days_in year m < d
    go (inl e) = omega arith
    go (inr (e, f)) =
        let other : d ≡ 29 → ⊥ = n e in
        omega (arith, ap (days_in 2001) e, february)

-- within the limits, and not 0: the month decides
pub is_within : (x : ℕ) → first_day ≤ x → x ≤ last_day → 1 ≤ day_of x → is_day x ≡ leb (day_of x) (days_in (year_of x) (month_of x))
is_within x a b l = rw (le-leb first_day x a, le-leb x last_day b, le-leb 1 (day_of x) l)
