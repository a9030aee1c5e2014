-- The fewest digits that hold a number are its decimal digits.
use Prim.Native.Nat.{ℕ, zero, suc, ◌+◌, ◌-◌, ◌*◌, ◌/◌, ◌%◌, ◌^◌, ◌≤◌, ◌<◌}
use native.Mathlib.Omega.{arith}
use native.Mathlib.Nat.{pow-succ', one-le-pow}
use mathlib.Core.Path.{◌≡◌, ap}
use mathlib.Core.List.{List, [], ◌∷◌, ◌++◌}
use borrow.Author.Tests.{lt-ltb, le-ltb}
use Rattle.io.specs.Digits.{hex_digit_ascii, last_digits, IsDigitCount}
use Rattle.report.specs.Report.{digits_of, decimal}

glyph_is : (n : ℕ) → hex_digit_ascii (n % 10) ≡ 48 + n % 10
glyph_is n = rw (lt-ltb (n % 10) 10 (omega arith))

-- k + 1 digits
digits_are : (fuel n k : ℕ) → n < fuel → n < 10 ^ suc k → (0 < k → 10 ^ k ≤ n) → last_digits 10 (suc k) n ≡ digits_of fuel n
digits_are zero n k l m f = absurd (omega arith)
digits_are (suc fuel) n zero l m f =
    let small : n < 10 = rw (pow-succ' 10 0) at m in
    rw (lt-ltb n 10 small, glyph_is n) (let e : 48 + n % 10 ≡ 48 + n = omega arith in ap (λ (b : ℕ). b ∷ []) e)
digits_are (suc fuel) n (suc k) l m f =
    let high : 10 * 10 ^ k ≤ n = rw (pow-succ' 10 k) at (f (omega arith)) in
    let low : n < 10 * 10 ^ suc k = rw (pow-succ' 10 (suc k)) at m in
    let some : 10 ≤ n = omega (arith, one-le-pow k 10 (omega arith)) in
    rw (le-ltb n 10 some, glyph_is n)
    (ap (λ (ds : List ℕ). ds ++ (48 + n % 10) ∷ []) (digits_are fuel (n / 10) k (omega arith) (omega arith) (λ z. omega arith)))

pub fewest_decimal : (n k : ℕ) → IsDigitCount 10 1 n k → last_digits 10 k n ≡ decimal n
unfolding decimal
fewest_decimal n zero e = absurd (omega arith)
fewest_decimal n (suc k) e =
    digits_are (suc n) n k (omega arith) e.1 (λ l. let p : suc k - 1 ≡ k = omega arith in rw p at (e.2 (omega arith)))
