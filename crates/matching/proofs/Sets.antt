-- Sets of 64 documents as words: the set of an expression holds a document just where the expression matches it.
use Prim.Native.Nat.{ℕ, zero, suc, ◌-◌, ◌/◌, ◌%◌, ◌^◌, ◌<◌, min, max}
use native.Mathlib.Nat.{pow-suc, mul_comm, div-div-eq-div-mul, div-one}
use native.Mathlib.Omega.{arith}
use mathlib.Core.Path.{◌≡◌, refl, sym, ap, ap₂, ◌∙◌}
use mathlib.Core.Bool.{Bool, ◌&&◌, ◌||◌}
use mathlib.Core.Bool
use lib.Bits.{bit_and, bit_or, and_step, or_step}
use lib.Dec.{eqb}
use mir.Syntax.{w64}
use mir.Facts.{Fits-and, Fits-or}
use Rattle.model.specs.Grammar.{Expression, term, complement, both, either}
use Rattle.model.specs.Reading.{evaluate}
use Rattle.model.specs.Boolean.{matches}
use Rattle.matching.specs.Sets.{holds, sets_by}

digit-suc : (j a : ℕ) → a / 2 ^ suc j ≡ a / 2 / 2 ^ j
digit-suc j a = ap (λ n. a / n) (pow-suc 2 j ∙ mul_comm (2 ^ j) 2) ∙ sym (div-div-eq-div-mul a 2 (2 ^ j))

pub holds-suc : (a j : ℕ) → holds a (suc j) ≡ holds (a / 2) j
holds-suc a j = ap (λ n. eqb (n % 2) 1) (digit-suc j a)

pub holds-zero : (a : ℕ) → holds a 0 ≡ eqb (a % 2) 1
holds-zero a = ap (λ n. eqb (n % 2) 1) (div-one a)

min_digits : (x y : ℕ) → x < 2 → y < 2 → eqb (min x y) 1 ≡ (eqb x 1 && eqb y 1)
min_digits zero zero h k = refl
min_digits zero (suc zero) h k = refl
min_digits (suc zero) zero h k = refl
min_digits (suc zero) (suc zero) h k = refl
min_digits zero (suc (suc y)) h k = absurd (omega arith)
min_digits (suc zero) (suc (suc y)) h k = absurd (omega arith)
min_digits (suc (suc x)) y h k = absurd (omega arith)

max_digits : (x y : ℕ) → x < 2 → y < 2 → eqb (max x y) 1 ≡ (eqb x 1 || eqb y 1)
max_digits zero zero h k = refl
max_digits zero (suc zero) h k = refl
max_digits (suc zero) zero h k = refl
max_digits (suc zero) (suc zero) h k = refl
max_digits zero (suc (suc y)) h k = absurd (omega arith)
max_digits (suc zero) (suc (suc y)) h k = absurd (omega arith)
max_digits (suc (suc x)) y h k = absurd (omega arith)

other-digit : (x y : ℕ) → x < 2 → y ≡ 1 - x → eqb y 1 ≡ Bool.not (eqb x 1)
other-digit zero y h e = rw e
other-digit (suc zero) y h e = rw e
other-digit (suc (suc x)) y h e = absurd (omega arith)

holds_and : (a b j : ℕ) → holds (bit_and a b) j ≡ (holds a j && holds b j)
holds_and a b zero =
    let low : bit_and a b % 2 ≡ min (a % 2) (b % 2) = omega (arith, and_step a b) in
    rw (holds-zero (bit_and a b), holds-zero a, holds-zero b, low) (min_digits (a % 2) (b % 2) (omega arith) (omega arith))
holds_and a b (suc j) =
    let rest : bit_and a b / 2 ≡ bit_and (a / 2) (b / 2) = omega (arith, and_step a b) in
    rw (holds-suc (bit_and a b) j, holds-suc a j, holds-suc b j, rest) (holds_and (a / 2) (b / 2) j)

holds_or : (a b j : ℕ) → holds (bit_or a b) j ≡ (holds a j || holds b j)
holds_or a b zero =
    let low : bit_or a b % 2 ≡ max (a % 2) (b % 2) = omega (arith, or_step a b) in
    rw (holds-zero (bit_or a b), holds-zero a, holds-zero b, low) (max_digits (a % 2) (b % 2) (omega arith) (omega arith))
holds_or a b (suc j) =
    let rest : bit_or a b / 2 ≡ bit_or (a / 2) (b / 2) = omega (arith, or_step a b) in
    rw (holds-suc (bit_or a b) j, holds-suc a j, holds-suc b j, rest) (holds_or (a / 2) (b / 2) j)

-- by the number of digits
holds_complement : (j k a : ℕ) → j < k → a < 2 ^ k → holds (2 ^ k - 1 - a) j ≡ Bool.not (holds a j)
holds_complement j zero a h f = absurd (omega arith)
holds_complement zero (suc k) a h f =
    let power = pow-suc 2 k in
    let low : (2 ^ suc k - 1 - a) % 2 ≡ 1 - a % 2 = omega (arith, power) in
    rw (holds-zero (2 ^ suc k - 1 - a), holds-zero a) (other-digit (a % 2) ((2 ^ suc k - 1 - a) % 2) (omega arith) low)
holds_complement (suc j) (suc k) a h f =
    let power = pow-suc 2 k in
    let rest : (2 ^ suc k - 1 - a) / 2 ≡ 2 ^ k - 1 - a / 2 = omega (arith, power) in
    rw (holds-suc (2 ^ suc k - 1 - a) j, holds-suc a j, rest) (holds_complement j k (a / 2) (omega arith) (omega (arith, power)))

module _ (setOf : ℕ → ℕ) (words : (t : ℕ) → setOf t < 2 ^ 64) where
  pub set_fits : (e : Expression) → evaluate (sets_by setOf) e < 2 ^ 64
  set_fits (term t) = words t
  set_fits (complement e) = omega (arith, set_fits e)
  set_fits (both e f) = (Fits-and {w = w64} (evaluate (sets_by setOf) f) (record { fits = set_fits e })).fits
  set_fits (either e f) =
      (Fits-or {w = w64} {a = evaluate (sets_by setOf) e} {b = evaluate (sets_by setOf) f} (record { fits = set_fits e }) (record { fits = set_fits f })).fits

  -- the set of an expression, document by document
  pub holds-matches : (e : Expression) (j : ℕ) → j < 64 → holds (evaluate (sets_by setOf) e) j ≡ matches (λ t. holds (setOf t) j) e
  holds-matches (term t) j h = refl
  holds-matches (complement e) j h = holds_complement j 64 (evaluate (sets_by setOf) e) h (set_fits e) ∙ ap Bool.not (holds-matches e j h)
  holds-matches (both e f) j h = holds_and (evaluate (sets_by setOf) e) (evaluate (sets_by setOf) f) j ∙ ap₂ ◌&&◌ (holds-matches e j h) (holds-matches f j h)
  holds-matches (either e f) j h = holds_or (evaluate (sets_by setOf) e) (evaluate (sets_by setOf) f) j ∙ ap₂ ◌||◌ (holds-matches e j h) (holds-matches f j h)
