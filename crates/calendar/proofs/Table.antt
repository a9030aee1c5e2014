-- The table of month and day, and what it says of a number.
use Prim.Native.Nat.{ℕ, ◌/◌, ◌%◌, ◌≤◌, ◌<◌}
use native.Mathlib.Omega.{arith}
use mathlib.Core.Path.{◌≡◌, refl, ap, ◌∙◌}
use mathlib.Core.Logic.{◌⊎◌, inl, inr}
use mathlib.Core.List.{List}
use mathlib.Core.Bool.{Bool, true, false, cond, ◌&&◌}
use lib.ListN.{get_or}
use lib.Dec.{leb, eqb}
use borrow.Author.Tests.{leb-true, leb-false, le-leb, lt-leb, eqb-true, eqb-false}
use Rattle.bits.proofs.Tests.{and_both, and_cases, le_or_lt}
use Rattle.bits.proofs.Tally.{get_or-map-below}
use Rattle.model.specs.Calendar.{year_of, month_of, day_of, leap, days_in, first_day, last_day, is_day}
use Rattle.model.proofs.Calendar.{days_in_past}
use Rattle.calendar.specs.Kinds.{kind_of, kinds, in_year}
use Rattle.calendar.proofs.Months.{common_within, leap_day, common_past}

pub kinds-at : (table : List ℕ) (p : ℕ) → table ≡ kinds → p < 1300 → get_or table p 0 ≡ kind_of p
unfolding kinds
kinds-at table p e l = ap (λ (k : List ℕ). get_or k p 0) e ∙ get_or-map-below kind_of 1300 p 0 l

-- ---- what a byte says

abbrev common : ℕ → Bool
common p = leb 1 (p % 100) && leb (p % 100) (days_in 2001 (p / 100))

abbrev byte : Bool → Bool → ℕ
byte b e = cond b 100 (cond e 108 46)

is_common : (p : ℕ) → kind_of p ≡ 100 → common p ≡ true
unfolding kind_of
is_common p = go (common p) (eqb p 229)
  where
    go : (b e : Bool) → byte b e ≡ 100 → b ≡ true
    go true e q = refl
    go false true q = absurd (omega arith)
    go false false q = absurd (omega arith)

is_leap_day : (p : ℕ) → kind_of p ≡ 108 → p ≡ 229
unfolding kind_of
is_leap_day p q = eqb-true p 229 (go (common p) (eqb p 229) q)
  where
    go : (b e : Bool) → byte b e ≡ 108 → e ≡ true
    go true e q = absurd (omega arith)
    go false true q = refl
    go false false q = absurd (omega arith)

is_none : (p : ℕ) → (kind_of p ≡ 100 → ⊥) → (kind_of p ≡ 108 → ⊥) → (common p ≡ false) × (eqb p 229 ≡ false)
unfolding kind_of
is_none p = go (common p) (eqb p 229)
  where
    go : (b e : Bool) → (byte b e ≡ 100 → ⊥) → (byte b e ≡ 108 → ⊥) → (b ≡ false) × (e ≡ false)
    go true e m n = absurd (m refl)
    go false true m n = absurd (n refl)
    go false false m n = (refl, refl)

-- ---- month and day of a number

module _ (x : ℕ) where
  same_day : x % 10000 % 100 ≡ day_of x
  same_day = omega arith

  same_month : x % 10000 / 100 ≡ month_of x
  same_month = omega arith

  pub in_each_year : kind_of (x % 10000) ≡ 100 → true ≡ in_year x
  in_each_year e =
      let c : (leb 1 (day_of x) && leb (day_of x) (days_in 2001 (month_of x))) ≡ true = rw (same_day, same_month) at (is_common (x % 10000) e) in
      let t = and_both (leb 1 (day_of x)) (leb (day_of x) (days_in 2001 (month_of x))) c in
      let l = common_within (year_of x) (month_of x) (day_of x) (leb-true (day_of x) (days_in 2001 (month_of x)) t.1) in
      rw (t.0, le-leb (day_of x) (days_in (year_of x) (month_of x)) l)

  pub in_leap_years : kind_of (x % 10000) ≡ 108 → in_year x ≡ leap (year_of x)
  in_leap_years e =
      let p = is_leap_day (x % 10000) e in
      rw (le-leb 1 (day_of x) (omega arith)) (leap_day (year_of x) (month_of x) (day_of x) (omega arith) (omega arith))

  pub in_no_year : (kind_of (x % 10000) ≡ 100 → ⊥) → (kind_of (x % 10000) ≡ 108 → ⊥) → false ≡ in_year x
  in_no_year m n = go (and_cases (leb 1 (day_of x)) (leb (day_of x) (days_in 2001 (month_of x))) c)
    where
      c : (leb 1 (day_of x) && leb (day_of x) (days_in 2001 (month_of x))) ≡ false
      c = rw (same_day, same_month) at (is_none (x % 10000) m n).0

      other : x % 10000 ≡ 229 → ⊥
      other = eqb-false (x % 10000) 229 (is_none (x % 10000) m n).1

      go : (leb 1 (day_of x) ≡ false) ⊎ (leb (day_of x) (days_in 2001 (month_of x)) ≡ false) → false ≡ in_year x
      go (inl e) = rw e
      go (inr e) =
          let o = leb-false (day_of x) (days_in 2001 (month_of x)) e in
          let l = common_past (year_of x) (month_of x) (day_of x) (omega arith) (λ a b. other (omega arith)) in
          rw (le-leb 1 (day_of x) (omega arith), lt-leb (day_of x) (days_in (year_of x) (month_of x)) l)

  pub past_months : 1300 ≤ x % 10000 → false ≡ in_year x
  past_months l = go (le_or_lt 1 (day_of x))
    where
      go : (1 ≤ day_of x) ⊎ (day_of x < 1) → false ≡ in_year x
      go (inl a) = rw (le-leb 1 (day_of x) a, days_in_past (year_of x) (month_of x) (omega arith), lt-leb (day_of x) 0 a)
      go (inr a) = rw (lt-leb 1 (day_of x) a)

-- ---- the two days of a document

abbrev pub BothHold : ℕ → ℕ → Bool
BothHold a b = (is_day a && is_day b) && leb a b

and_no : (p q r : Bool) → q ≡ false → false ≡ ((p && q) && r)
and_no true q r e = rw e
and_no false q r e = refl

no_and : (p : Bool) → false ≡ (p && false)
no_and true = refl
no_and false = refl

and_yes : (p : Bool) → (p && true) ≡ p
and_yes true = refl
and_yes false = refl

module _ (a b : ℕ) where
  pub first_early : a < first_day → false ≡ BothHold a b
  first_early l = rw (lt-leb first_day a l)

  pub last_late : last_day < b → false ≡ BothHold a b
  last_late l = and_no (is_day a) (is_day b) (leb a b) (rw (le-leb first_day b (omega arith), lt-leb b last_day l))

  pub wrong-order : b < a → false ≡ BothHold a b
  wrong-order l = rw (lt-leb a b l) (no_and (is_day a && is_day b))

  pub both_within : first_day ≤ a → b ≤ last_day → a ≤ b → BothHold a b ≡ (in_year a && in_year b)
  both_within f l o =
      rw (le-leb first_day a f, le-leb a last_day (omega arith), le-leb first_day b (omega arith), le-leb b last_day l, le-leb a b o)
      (and_yes (in_year a && in_year b))
