-- Round half to even (document 02, M-105): one number has the property `IsRounded`, and the rate is that number.
use Prim.Native.Nat.{ℕ, zero, suc, ◌+◌, ◌*◌, ◌/◌, ◌%◌, ◌≤◌, ◌<◌, zero-le}
use native.Mathlib.Omega.{arith}
use native.Mathlib.Nat.{le_refl, add-mul, suc-mul, mul_assoc, mod-lt, div-add-mod', mul-le-mul_right, mul-lt-mul_of_pos_right}
use mathlib.Core.Path.{◌≡◌, sym, ap, ◌∙◌}
use mathlib.Core.Logic.{◌⊎◌, inl, inr}
use mathlib.Core.List.{List, [], ◌∷◌}
use mathlib.Core.Bool.{true, false, cond, ◌&&◌}
use lib.Dec.{ltb, eqb}
use borrow.Author.Tests.{lt-ltb, le-ltb, ltb-true, ltb-false, eq-eqb, ne_eqb, eqb-true, eqb-false}
use Rattle.bits.specs.Sequences.{up_from}
use Rattle.bits.proofs.Tests.{look, or_cases, or_right, or_neither, and_both, and_cases, le_or_lt, Cmp, less, same, more, cmp}
use Rattle.model.specs.Rate.{distance, IsRounded, rather, chosen, rate}
use Rattle.model.specs.Queries.{per_mille_result}
use Rattle.model.specs.RateDemand.{RateDemand}

module _ (a b : ℕ) (pos : 0 < b) where
  -- ---- one number at most

  -- of two of the same parity, equally far, neither is nearest: the number half way between them is at a / b
  between : (r s : ℕ) → r < s → r % 2 ≡ s % 2 → distance a b r ≡ distance a b s → ((t : ℕ) → distance a b r ≤ distance a b t) → ⊥
  between r s l p e least =
      let m = (r + s) / 2 in
      let half : 2 * m ≡ r + s = omega arith in
      let product : 2 * (m * b) ≡ r * b + s * b = sym (mul_assoc 2 m b) ∙ ap (λ (n : ℕ). n * b) half ∙ add-mul r s b in
      absurd (omega (arith, least m, mul-lt-mul_of_pos_right l pos))

  not_two : (r s : ℕ) → IsRounded a b r → IsRounded a b s → r < s → ⊥
  not_two r s x y l =
      let e : distance a b r ≡ distance a b s = omega (arith, x.nearest s, y.nearest r) in
      between r s l (omega (arith, x.even s (sym e) (omega arith), y.even r e (omega arith))) e x.nearest

  pub rounded_only : (r s : ℕ) → IsRounded a b r → IsRounded a b s → r ≡ s
  rounded_only r s x y = go (cmp r s)
    where
      go : Cmp r s → r ≡ s
      go (less l) = absurd (not_two r s x y l)
      go (same e) = e
      go (more l) = absurd (not_two s r y x l)

  -- no more than a whole number that a / b does not pass
  pub rounded_le : (m r : ℕ) → a ≤ m * b → IsRounded a b r → r ≤ m
  rounded_le m r l x = go (le_or_lt r m)
    where
      go : (r ≤ m) ⊎ (m < r) → r ≤ m
      go (inl k) = k
      go (inr k) = absurd (omega (arith, x.nearest m, mul-lt-mul_of_pos_right k pos))

  -- ---- the quotient or the one after it

  -- the rest is below half of b, or is half of it and the quotient even
  pub stay_rounded : 2 * (a % b) + a / b % 2 ≤ b → IsRounded a b (a / b)
  stay_rounded l = record { nearest = λ s. go s (le_or_lt s (a / b)); even = λ s e d. half s e d (cmp s (a / b)) }
    where
      whole : a / b * b + a % b ≡ a
      whole = div-add-mod' a b

      go : (s : ℕ) → (s ≤ a / b) ⊎ (a / b < s) → distance a b (a / b) ≤ distance a b s
      go s (inl k) = omega (arith, whole, mul-le-mul_right b k)
      go s (inr k) = omega (arith, whole, mul-le-mul_right b k, suc-mul (a / b) b)

      half : (s : ℕ) → distance a b s ≡ distance a b (a / b) → (s ≡ a / b → ⊥) → Cmp s (a / b) → a / b % 2 ≡ 0
      half s e d (less k) = absurd (omega (arith, whole, mul-le-mul_right b k, suc-mul s b))
      half s e d (same k) = absurd (d k)
      half s e d (more k) = omega (arith, whole, mul-le-mul_right b k, suc-mul (a / b) b)

  -- the rest is above half of b, or is half of it and the quotient odd
  pub next_rounded : b < 2 * (a % b) + a / b % 2 → IsRounded a b (a / b + 1)
  next_rounded l = record { nearest = λ s. go s (le_or_lt s (a / b)); even = λ s e d. half s e d (cmp s (a / b + 1)) }
    where
      whole : a / b * b + a % b ≡ a
      whole = div-add-mod' a b

      next : (a / b + 1) * b ≡ a / b * b + b
      next = omega (arith, add-mul (a / b) 1 b)

      go : (s : ℕ) → (s ≤ a / b) ⊎ (a / b < s) → distance a b (a / b + 1) ≤ distance a b s
      go s (inl k) = omega (arith, whole, next, mod-lt a pos, mul-le-mul_right b k)
      go s (inr k) = omega (arith, whole, next, mod-lt a pos, mul-le-mul_right b k)

      half : (s : ℕ) → distance a b s ≡ distance a b (a / b + 1) → (s ≡ a / b + 1 → ⊥) → Cmp s (a / b + 1) → (a / b + 1) % 2 ≡ 0
      half s e d (less k) = omega (arith, whole, next, mod-lt a pos, mul-le-mul_right b k, suc-mul s b)
      half s e d (same k) = absurd (d k)
      half s e d (more k) = absurd (omega (arith, whole, next, mod-lt a pos, mul-le-mul_right b k, suc-mul (a / b + 1) b))

  -- ---- what is chosen

  -- the order of choice as one number: the distance, then the parity
  abbrev cost : ℕ → ℕ
  cost r = 2 * distance a b r + r % 2

  rather-cost : (s r : ℕ) → rather a b s r ≡ true → cost s < cost r
  rather-cost s r e = go (or_cases (ltb x y) (eqb x y && ltb (s % 2) (r % 2)) e)
    where
      x : ℕ
      x = distance a b s

      y : ℕ
      y = distance a b r

      go : (ltb x y ≡ true) ⊎ ((eqb x y && ltb (s % 2) (r % 2)) ≡ true) → cost s < cost r
      go (inl h) = omega (arith, ltb-true x y h)
      go (inr h) =
          let p = and_both (eqb x y) (ltb (s % 2) (r % 2)) h in
          omega (arith, eqb-true x y p.0, ltb-true (s % 2) (r % 2) p.1)

  stays_cost : (s r : ℕ) → rather a b s r ≡ false → cost r ≤ cost s
  stays_cost s r e = go (and_cases (eqb x y) (ltb (s % 2) (r % 2)) neither.1)
    where
      x : ℕ
      x = distance a b s

      y : ℕ
      y = distance a b r

      neither : (ltb x y ≡ false) × ((eqb x y && ltb (s % 2) (r % 2)) ≡ false)
      neither = or_neither (ltb x y) (eqb x y && ltb (s % 2) (r % 2)) e

      go : (eqb x y ≡ false) ⊎ (ltb (s % 2) (r % 2) ≡ false) → cost r ≤ cost s
      go (inl h) = omega (arith, ltb-false x y neither.0, eqb-false x y h)
      go (inr h) = omega (arith, ltb-false x y neither.0, ltb-false (s % 2) (r % 2) h)

  -- of two, the one in front
  step-cost : (s r : ℕ) → (cost (cond (rather a b s r) s r) ≤ cost s) × (cost (cond (rather a b s r) s r) ≤ cost r)
  step-cost s r = go (look (rather a b s r))
    where
      go : (rather a b s r ≡ true) ⊎ (rather a b s r ≡ false) → (cost (cond (rather a b s r) s r) ≤ cost s) × (cost (cond (rather a b s r) s r) ≤ cost r)
      go (inl e) = rw e (le_refl (cost s), omega (arith, rather-cost s r e))
      go (inr e) = rw e (stays_cost s r e, le_refl (cost r))

  chosen-first : (r : ℕ) (ss : List ℕ) → cost (chosen a b r ss) ≤ cost r
  chosen-first r [] = le_refl (cost r)
  chosen-first r (s ∷ ss) = omega (arith, chosen-first (cond (rather a b s r) s r) ss, (step-cost s r).1)

  chosen_least : (n i r s : ℕ) → i ≤ s → s < i + n → cost (chosen a b r (up_from i n)) ≤ cost s
  chosen_least zero i r s l h = absurd (omega arith)
  chosen_least (suc n) i r s l h = go (cmp i s) (λ k. chosen_least n (suc i) (cond (rather a b i r) i r) s k (omega arith))
    where
      t : ℕ
      t = cond (rather a b i r) i r

      go : Cmp i s → (i < s → cost (chosen a b t (up_from (suc i) n)) ≤ cost s) → cost (chosen a b t (up_from (suc i) n)) ≤ cost s
      go (less k) rest = rest k
      go (same k) rest = omega (arith, chosen-first t (up_from (suc i) n), (step-cost i r).0, ap cost k)
      go (more k) rest = absurd (omega arith)

  -- what no number is in front of has the property
  least_rounded : (r : ℕ) → ((s : ℕ) → cost r ≤ cost s) → IsRounded a b r
  least_rounded r least = record { nearest = near; even = λ s e d. go s e (cmp s r) d (le_or_lt (r % 2) 0) }
    where
      near : (s : ℕ) → distance a b r ≤ distance a b s
      near s = omega (arith, least s)

      go : (s : ℕ) → distance a b s ≡ distance a b r → Cmp s r → (s ≡ r → ⊥) → (r % 2 ≤ 0) ⊎ (0 < r % 2) → r % 2 ≡ 0
      go s e c d (inl z) = omega arith
      go s e (same k) d (inr z) = absurd (d k)
      go s e (less k) d (inr z) = absurd (between s r k (omega (arith, least s)) e (λ t. omega (arith, near t)))
      go s e (more k) d (inr z) = absurd (between r s k (omega (arith, least s)) (sym e) near)

-- ---- the rate

rate_least : (count size : ℕ) (pos : 0 < size) (s : ℕ) → s < 1001 → cost (count * 1000) size pos (rate count size) ≤ cost (count * 1000) size pos s
unfolding rate
rate_least count size pos s l = chosen_least (count * 1000) size pos 1001 0 0 s zero-le l

-- the rate has the property ..
pub rate_rounded : (count size : ℕ) → 0 < size → count ≤ size → IsRounded (count * 1000) size (rate count size)
rate_rounded count size pos l = least_rounded (count * 1000) size pos (rate count size) (λ s. go s (le_or_lt s 1000))
  where
    at : ℕ → ℕ
    at = cost (count * 1000) size pos

    far : (s : ℕ) → 1000 < s → at 1000 ≤ at s
    far s k = omega (arith, mul-lt-mul_of_pos_right k pos)

    go : (s : ℕ) → (s ≤ 1000) ⊎ (1000 < s) → at (rate count size) ≤ at s
    go s (inl k) = rate_least count size pos s (omega arith)
    go s (inr k) = omega (arith, rate_least count size pos 1000 (omega arith), far s k)

-- .. and no other number has it
pub rounded_rate : (count size : ℕ) → 0 < size → count ≤ size → (r : ℕ) → IsRounded (count * 1000) size r → r ≡ rate count size
rounded_rate count size pos l r x = rounded_only (count * 1000) size pos r (rate count size) x (rate_rounded count size pos l)

pub rate_le : (count size : ℕ) → 0 < size → count ≤ size → rate count size ≤ 1000
rate_le count size pos l = rounded_le (count * 1000) size pos 1000 (rate count size) (omega arith) (rate_rounded count size pos l)

-- ---- the request's sentences, of what the question comes to

pub rate_demand : (count size : ℕ) → RateDemand count size (per_mille_result count size)
rate_demand count size = record {
  rounded = rate count size;
  rounds = rate_rounded count size;
  only = rounded_rate count size;
  answer = λ pos l. rw (ne_eqb size 0 (omega arith), le-ltb size count l);
  no_size = λ e. rw (eq-eqb size 0 e);
  above = λ l. rw (or_right (eqb size 0) (ltb size count) (lt-ltb size count l));
}
