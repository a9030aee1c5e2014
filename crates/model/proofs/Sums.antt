-- Sums of the front of a list of numbers, and the ends of chunks of equal size.
use Prim.Native.Nat.{ℕ, zero, suc, ◌+◌, ◌*◌, ◌≤◌, ◌<◌}
use native.Mathlib.Omega.{arith}
use native.Mathlib.Numerals.{add-one}
use native.Mathlib.Nat.{suc-mul, mul-le-mul_right}
use mathlib.Core.Path.{◌≡◌}
use mathlib.Core.List.{List, [], ◌∷◌}
use lib.ListN.{length, get_or, take}
use Rattle.bits.specs.Bits.{sum}

pub sum-take-suc : (xs : List ℕ) (i : ℕ) → i < length xs → sum (take (suc i) xs) ≡ sum (take i xs) + get_or xs i 0
sum-take-suc [] i l = absurd (omega arith)
sum-take-suc (x ∷ xs) zero l = omega arith
sum-take-suc (x ∷ xs) (suc i) l = omega (arith, sum-take-suc xs i (omega arith))

pub sum-suc : (xs : List ℕ) (i : ℕ) → i < length xs → sum (take (i + 1) xs) ≡ sum (take i xs) + get_or xs i 0
sum-suc xs i l = rw (add-one i) (sum-take-suc xs i l)

pub sum-take_le : (xs : List ℕ) (a : ℕ) → sum (take a xs) ≤ sum xs
sum-take_le xs zero = omega arith
sum-take_le [] (suc a) = omega arith
sum-take_le (x ∷ xs) (suc a) = omega (arith, sum-take_le xs a)

pub sum-take_mono : (xs : List ℕ) (a b : ℕ) → a ≤ b → sum (take a xs) ≤ sum (take b xs)
sum-take_mono xs zero b l = omega arith
sum-take_mono xs (suc a) zero l = absurd (omega arith)
sum-take_mono [] (suc a) (suc b) l = omega arith
sum-take_mono (x ∷ xs) (suc a) (suc b) l = omega (arith, sum-take_mono xs a b (omega arith))

-- the end of chunk i of more than i chunks of size w
pub chunk_end : (w i n : ℕ) → i < n → i * w + w ≤ n * w
chunk_end w i n l =
    let e = suc-mul i w in
    let m : suc i * w ≤ n * w = mul-le-mul_right w l in
    omega arith
