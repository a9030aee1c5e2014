-- The law of rank onward from a place whose rank is known.
use mathlib.Core.Path.{◌≡◌, ap}
use mathlib.Core.Bool.{true}
use mathlib.Core.List.{List}
use Prim.Native.Nat.{ℕ, ◌+◌, ◌-◌, ◌*◌, ◌/◌, ◌%◌, ◌^◌, ◌≤◌, ◌<◌}
use native.Mathlib.Omega.{arith}
use lib.Count.{ones}
use lib.ListN.{get_or}
use Rattle.bits.specs.Bits.{bits_of}
use Rattle.bits.specs.Rows.{count_below, word_at}
use Rattle.bits.specs.Sequences.{rank}
use Rattle.bits.proofs.Bits.{rank-bits_of, count_le}
use Rattle.bits.proofs.Words.{count_in_word}

-- m bits from place x on, in the word at its byte
pub ones-onward : (row : List ℕ) → ((i : ℕ) → get_or row i 0 < 256) → (x m : ℕ) → m ≤ 56
    → count_below 1 row (x + m) ≡ count_below 1 row x + ones (word_at row (x / 8) / 2 ^ (x % 8) % 2 ^ m)
ones-onward row bytes x m h =
    let p : 8 * (x / 8) + x % 8 ≡ x = omega arith in
    rw p at (count_in_word row bytes true (x / 8) (x % 8) m (omega arith))

-- the rank of y by that of x and what lies between
pub rank-onward : (n : ℕ) (row : List ℕ) (x y c r : ℕ) → x ≤ y → y ≤ n → c ≡ rank 1 (bits_of n row) x
    → count_below 1 row (x + (y - x)) ≡ count_below 1 row x + r → (c + r ≡ rank 1 (bits_of n row) y) × (c + r ≤ y)
rank-onward n row x y c r l h e f =
    let p : x + (y - x) ≡ y = omega arith in
    let g : c + r ≡ count_below 1 row y = omega (arith, rank-bits_of 1 n row x (omega arith), ap (count_below 1 row) p) in
    omega (arith, rank-bits_of 1 n row y h, count_le 1 row y)
