-- The calendar of the dated questions, document 02, M-109: its months, what it is to be a day, that the day after a day is the next larger day, and that
-- each day is reached so from the first.
use Prim.Native.Nat.{ℕ, zero, suc, ◌+◌, ◌-◌, ◌/◌, ◌≤◌, ◌<◌}
use native.Mathlib.Omega.{arith}
use mathlib.Core.Path.{◌≡◌, refl, sym, ap, ap₂, subst, ◌∙◌}
use mathlib.Core.Logic.{◌⊎◌, inl, inr}
use mathlib.Core.List.{List}
use mathlib.Core.Bool.{Bool, true, false, true≢false, cond, ◌&&◌}
use lib.ListN.{get_or, get_or-eq_default}
use lib.Dec.{leb, ltb, eqb}
use borrow.Author.Tests.{leb-true, le-leb, ltb-true, ltb-false, ne_eqb}
use Rattle.bits.specs.Sequences.{all, below}
use Rattle.bits.proofs.Tests.{look, and_both, le_or_lt, Cmp, less, same, more, cmp}
use Rattle.bits.proofs.Tally.{all-up_from-at}
use Rattle.model.specs.Calendar.{year_of, month_of, day_of, number_of, leap, month_lengths, days_in, first_day, last_day, is_day, day_after}

-- ---- year, month and day

pub number-of_parts : (x : ℕ) → number_of (year_of x) (month_of x) (day_of x) ≡ x
number-of_parts x = omega arith

-- of a number with two digits each for month and day
pub parts_of-number : (year month day : ℕ) → month < 100 → day < 100
    → (year_of (number_of year month day) ≡ year) × (month_of (number_of year month day) ≡ month) × (day_of (number_of year month day) ≡ day)
parts_of-number year month day m d = (omega arith, omega arith, omega arith)

-- one stands before the other by year, then by month, then by day
abbrev pub Earlier : ℕ → ℕ → Type 0
Earlier x y =
    (year_of x < year_of y)
    ⊎ ((year_of x ≡ year_of y) × ((month_of x < month_of y) ⊎ ((month_of x ≡ month_of y) × (day_of x < day_of y))))

-- .. and that is the order of the numbers
pub earlier_lt : (x y : ℕ) → Earlier x y → x < y
earlier_lt x y (inl a) = omega arith
earlier_lt x y (inr (a, inl b)) = omega arith
earlier_lt x y (inr (a, inr (b, c))) = omega arith

pub lt_earlier : (x y : ℕ) → x < y → Earlier x y
lt_earlier x y l = go (le_or_lt (year_of y) (year_of x)) (le_or_lt (month_of y) (month_of x))
  where
    go : (year_of y ≤ year_of x) ⊎ (year_of x < year_of y) → (month_of y ≤ month_of x) ⊎ (month_of x < month_of y) → Earlier x y
    go (inr a) b = inl a
    go (inl a) (inr b) = inr (omega arith, inl b)
    go (inl a) (inl b) = inr (omega arith, inr (omega arith, omega arith))

-- ---- the months

pub days_in-zero : (year : ℕ) → days_in year 0 ≡ 0
unfolding days_in
days_in-zero year = refl

pub days_in_past : (year m : ℕ) → 12 < m → days_in year m ≡ 0
unfolding days_in
days_in_past year m l =
    let b : 12 ≤ m - 1 = omega arith in
    rw (ne_eqb m 0 (omega arith)) (get_or-eq_default (month_lengths (cond (leap year) 29 28)) 0 b)

pub days_in_december : (year : ℕ) → days_in year 12 ≡ 31
unfolding days_in
days_in_december year = refl

-- a common year, as 2001 is
pub days_in-common : (year m : ℕ) → leap year ≡ false → days_in year m ≡ days_in 2001 m
unfolding days_in
days_in-common year m e = rw e

-- a leap year is longer by 29 February
pub days_in-leap : (year m : ℕ) → leap year ≡ true → days_in year m ≡ cond (eqb m 2) 29 (days_in 2001 m)
unfolding days_in
days_in-leap year zero e = refl
days_in-leap year (suc zero) e = refl
days_in-leap year (suc (suc zero)) e = rw e
days_in-leap year (suc (suc (suc m))) e =
    let s : suc (suc (suc m)) - 1 ≡ suc (suc m) = omega arith in
    rw (ne_eqb (suc (suc (suc m))) 2 (omega arith), s)

-- each of the twelve months has 28 to 31 days
pub days_in-range : (year m : ℕ) → 1 ≤ m → m ≤ 12 → (28 ≤ days_in year m) × (days_in year m ≤ 31)
unfolding days_in
days_in-range year m a b =
    rw (ne_eqb m 0 (omega arith))
    (let t = and_both (leb 28 n) (leb n 31) (all-up_from-at (λ i. fits (get_or (lengths (leap year)) i 0)) 0 12 (every (leap year)) (m - 1) (omega arith) (omega arith)) in
    (leb-true 28 n t.0, leb-true n 31 t.1))
  where
    lengths : Bool → List ℕ
    lengths c = month_lengths (cond c 29 28)

    fits : ℕ → Bool
    fits n = leb 28 n && leb n 31

    every : (c : Bool) → all (λ i. fits (get_or (lengths c) i 0)) (below 12) ≡ true
    every true = refl
    every false = refl

    n : ℕ
    n = get_or (lengths (leap year)) (m - 1) 0

-- what has a day is one of the twelve
pub month_range : (year m : ℕ) → 1 ≤ days_in year m → (1 ≤ m) × (m ≤ 12)
month_range year m l = (low m l, go (le_or_lt m 12))
  where
    low : (m : ℕ) → 1 ≤ days_in year m → 1 ≤ m
    low zero l = absurd (omega (arith, days_in-zero year))
    low (suc m) l = omega arith

    go : (m ≤ 12) ⊎ (12 < m) → m ≤ 12
    go (inl a) = a
    go (inr b) = absurd (omega (arith, days_in_past year m b))

-- ---- what it is to be a day

pub record Day (x : ℕ) : Type 0 where
  pub first : first_day ≤ x
  pub last : x ≤ last_day
  pub begun : 1 ≤ day_of x
  pub over : day_of x ≤ days_in (year_of x) (month_of x)

pub is_day_lem : (x : ℕ) → is_day x ≡ true → Day x
is_day_lem x e =
    let limits = leb first_day x && leb x last_day in
    let within = leb 1 (day_of x) && leb (day_of x) (days_in (year_of x) (month_of x)) in
    let t = and_both limits within e in
    let u = and_both (leb first_day x) (leb x last_day) t.0 in
    let v = and_both (leb 1 (day_of x)) (leb (day_of x) (days_in (year_of x) (month_of x))) t.1 in
    record {
      first = leb-true first_day x u.0;
      last = leb-true x last_day u.1;
      begun = leb-true 1 (day_of x) v.0;
      over = leb-true (day_of x) (days_in (year_of x) (month_of x)) v.1;
    }

pub day_is : (x : ℕ) → Day x → is_day x ≡ true
day_is x d =
    rw (
      le-leb first_day x d.first,
      le-leb x last_day d.last,
      le-leb 1 (day_of x) d.begun,
      le-leb (day_of x) (days_in (year_of x) (month_of x)) d.over,
    )

pub no_day_is : (x : ℕ) → (Day x → ⊥) → is_day x ≡ false
no_day_is x f = go (look (is_day x))
  where
    go : (is_day x ≡ true) ⊎ (is_day x ≡ false) → is_day x ≡ false
    go (inl e) = absurd (f (is_day_lem x e))
    go (inr e) = e

-- both limits are days
pub first_is : Day first_day
first_is = is_day_lem first_day (unfold days_in in refl)

pub last_is : Day last_day
last_is = is_day_lem last_day (unfold days_in in refl)

-- ---- the day after

-- the next larger day: a day, and there is none between
pub record Next (x y : ℕ) : Type 0 where
  pub day : Day y
  pub later : x < y
  pub between : (z : ℕ) → x < z → z < y → is_day z ≡ false

module _ (x : ℕ) (d : Day x) (early : x < last_day) where
  months : (1 ≤ month_of x) × (month_of x ≤ 12)
  months = month_range (year_of x) (month_of x) (omega (arith, d.begun, d.over))

  -- a later day is not of the same month, where x is the last of it
  past_month : days_in (year_of x) (month_of x) ≤ day_of x → (z : ℕ) → x < z → Day z → z / 100 ≡ x / 100 → ⊥
  past_month l z u e f =
      let a : year_of z ≡ year_of x = omega arith in
      let b : month_of z ≡ month_of x = omega arith in
      omega (arith, e.over, ap₂ days_in a b)

  next_in_month : day_of x < days_in (year_of x) (month_of x) → Next x (x + 1)
  next_in_month l =
      let s = days_in-range (year_of x) (month_of x) months.0 months.1 in
      let a : year_of (x + 1) ≡ year_of x = omega arith in
      let b : month_of (x + 1) ≡ month_of x = omega arith in
      record {
        day = record { first = omega arith; last = omega arith; begun = omega arith; over = rw (a, b) (omega arith) };
        later = omega arith;
        between = λ z u v. absurd (omega arith);
      }

  next_month : days_in (year_of x) (month_of x) ≤ day_of x → month_of x < 12 → Next x (number_of (year_of x) (month_of x + 1) 1)
  next_month l n =
      let p = parts_of-number (year_of x) (month_of x + 1) 1 (omega arith) (omega arith) in
      record {
        day = record {
          first = omega (arith, d.first);
          last = omega (arith, d.last);
          begun = omega arith;
          over = rw (p.0, p.1, p.2) (omega (arith, days_in-range (year_of x) (month_of x + 1) (omega arith) (omega arith)));
        };
        later = omega arith;
        between = λ z u v. no_day_is z (λ e. past_month l z u e (let o = e.begun in omega arith));
      }

  next_year : days_in (year_of x) (month_of x) ≤ day_of x → 12 ≤ month_of x → Next x (number_of (year_of x + 1) 1 1)
  next_year l n =
      let i : month_of x ≡ 12 = omega (arith, months) in
      let j : 31 ≤ day_of x = omega (arith, ap (days_in (year_of x)) i, days_in_december (year_of x)) in
      let p = parts_of-number (year_of x + 1) 1 1 (omega arith) (omega arith) in
      record {
        day = record {
          first = omega (arith, d.first);
          last = omega arith;
          begun = omega arith;
          over = rw (p.0, p.1, p.2) (omega (arith, days_in-range (year_of x + 1) 1 (omega arith) (omega arith)));
        };
        later = omega arith;
        between = λ z u v.
            no_day_is z
            (λ e.
            let o = e.begun in
            let p = e.over in
            let r = month_range (year_of z) (month_of z) (omega arith) in
            past_month l z u e (omega arith));
      }

  -- of each day but the last: so the day after it is within the limits too
  pub next_day : Next x (day_after x)
  next_day = go (look (ltb (day_of x) days)) (look (ltb (month_of x) 12))
    where
      days : ℕ
      days = days_in (year_of x) (month_of x)

      go : (ltb (day_of x) days ≡ true) ⊎ (ltb (day_of x) days ≡ false) → (ltb (month_of x) 12 ≡ true) ⊎ (ltb (month_of x) 12 ≡ false) → Next x (day_after x)
      go (inl e) f = rw e (next_in_month (ltb-true (day_of x) days e))
      go (inr e) (inl f) = rw (e, f) (next_month (ltb-false (day_of x) days e) (ltb-true (month_of x) 12 f))
      go (inr e) (inr f) = rw (e, f) (next_year (ltb-false (day_of x) days e) (ltb-false (month_of x) 12 f))

  -- there is one next larger day
  pub next_only : (y : ℕ) → Next x y → day_after x ≡ y
  next_only y n = go (cmp (day_after x) y)
    where
      go : Cmp (day_after x) y → day_after x ≡ y
      go (less l) = absurd (true≢false (sym (day_is (day_after x) next_day.day) ∙ n.between (day_after x) next_day.later l))
      go (same e) = e
      go (more l) = absurd (true≢false (sym (day_is y n.day) ∙ next_day.between y n.later l))

-- ---- all days

-- the first day, and the day after each but the last
pub data Reached : ℕ → Type 0 where
  at_first : Reached first_day
  at_next : (x : ℕ) → Reached x → x < last_day → Reached (day_after x)

pub reached_is : (x : ℕ) → Reached x → Day x
reached_is _ at_first = first_is
reached_is _ (at_next x r l) = (next_day x (reached_is x r) l).day

-- the largest day below a number is reached
record Below (n : ℕ) : Type 0 where
  day : ℕ
  reached : Reached day
  under : day < n
  between : (z : ℕ) → day < z → z < n → is_day z ≡ false

below_is : (n : ℕ) → first_day < n → Below n
below_is zero l = absurd (omega arith)
below_is (suc n) l = go (look (is_day n)) (cmp first_day n) (below_is n)
  where
    here : Reached n → Below (suc n)
    here r = record { day = n; reached = r; under = omega arith; between = λ z a b. absurd (omega arith) }

    next : Day n → Below n → Reached n
    next d b =
        let early : b.day < last_day = omega (arith, b.under, d.last) in
        let e = next_only b.day (reached_is b.day b.reached) early n (record { day = d; later = b.under; between = b.between }) in
        subst Reached e (at_next b.day b.reached early)

    past : is_day n ≡ false → Below n → Below (suc n)
    past e b = record { day = b.day; reached = b.reached; under = omega (arith, b.under); between = λ z u v. last z (cmp z n) v (b.between z u) }
      where
        last : (z : ℕ) → Cmp z n → z < suc n → (z < n → is_day z ≡ false) → is_day z ≡ false
        last z (less k) v f = f k
        last z (same k) v f = ap is_day k ∙ e
        last z (more k) v f = absurd (omega arith)

    go : (is_day n ≡ true) ⊎ (is_day n ≡ false) → Cmp first_day n → (first_day < n → Below n) → Below (suc n)
    go (inl e) (less k) rest = here (next (is_day_lem n e) (rest k))
    go (inr e) (less k) rest = past e (rest k)
    go e (same k) rest = here (subst Reached k at_first)
    go e (more k) rest = absurd (omega arith)

-- each day is the first, or the day after a day
pub is_reached : (y : ℕ) → Day y → Reached y
is_reached y d = go (cmp b.day y)
  where
    b : Below (suc y)
    b = below_is (suc y) (omega (arith, d.first))

    go : Cmp b.day y → Reached y
    go (less k) = absurd (true≢false (sym (day_is y d) ∙ b.between y k (omega arith)))
    go (same k) = subst Reached k b.reached
    go (more k) = absurd (omega (arith, b.under))
