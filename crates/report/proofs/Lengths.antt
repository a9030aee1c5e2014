-- How long numbers and lines are, in bytes.
use Prim.Native.Nat.{ℕ, zero, suc, ◌+◌, ◌*◌, ◌/◌, ◌%◌, ◌^◌, ◌≤◌, ◌<◌}
use native.Mathlib.Omega.{arith}
use native.Mathlib.Nat.{pow-succ'}
use mathlib.Core.Path.{◌≡◌}
use mathlib.Core.Logic.{◌⊎◌, inl, inr}
use mathlib.Core.List.{List, [], ◌∷◌, ◌++◌}
use mathlib.Core.Bool.{Bool, true, false, cond}
use lib.ListN.{length, length-append}
use lib.Dec.{ltb}
use borrow.Author.Tests.{ltb-true, ltb-false, lt-ltb}
use Rattle.bits.proofs.Tests.{look}
use Rattle.model.specs.Lists.{Every}
use Rattle.model.specs.Queries.{Pair, flat_placed}
use Rattle.model.proofs.Sorting.{every_head, every_tail}
use Rattle.report.specs.Report.{digits_of, decimal, line_of, lines_of, last_line}
use Rattle.report.proofs.Entries.{entries_of}

-- ---- numbers

-- a number below 10 ^ (k + 1) has at most k + 1 digits
length_digits : (fuel n k : ℕ) → n < 10 ^ suc k → length (digits_of fuel n) ≤ suc k
length_digits zero n k l = omega arith
length_digits (suc fuel) n zero l = let small : n < 10 = rw (pow-succ' 10 0) at l in rw (lt-ltb n 10 small) (omega arith)
length_digits (suc fuel) n (suc k) l =
    let low : n < 10 * 10 ^ suc k = rw (pow-succ' 10 (suc k)) at l in
    go (ltb n 10) (length_digits fuel (n / 10) k (omega arith))
  where
    final : List ℕ
    final = (48 + n % 10) ∷ []

    go : (b : Bool) → length (digits_of fuel (n / 10)) ≤ suc k → length (cond b ((48 + n) ∷ []) (digits_of fuel (n / 10) ++ final)) ≤ suc (suc k)
    go true i = omega arith
    go false i = omega (arith, length-append (digits_of fuel (n / 10)) final)

length-decimal : (n k : ℕ) → n < 10 ^ suc k → length (decimal n) ≤ suc k
unfolding decimal
length-decimal n k l = length_digits (suc n) n k l

-- any number has at most one digit and one for each ten in it
tens_digits : (fuel n : ℕ) → length (digits_of fuel n) ≤ 1 + n / 10
tens_digits zero n = omega arith
tens_digits (suc fuel) n = go (look (ltb n 10)) (tens_digits fuel (n / 10))
  where
    final : List ℕ
    final = (48 + n % 10) ∷ []

    go : (ltb n 10 ≡ true) ⊎ (ltb n 10 ≡ false) → length (digits_of fuel (n / 10)) ≤ 1 + n / 10 / 10
        → length (cond (ltb n 10) ((48 + n) ∷ []) (digits_of fuel (n / 10) ++ final)) ≤ 1 + n / 10
    go (inl e) i = rw e (omega arith)
    go (inr e) i = rw e (omega (arith, ltb-false n 10 e, length-append (digits_of fuel (n / 10)) final))

tens_decimal : (n : ℕ) → length (decimal n) ≤ 1 + n / 10
unfolding decimal
tens_decimal n = tens_digits (suc n) n

-- ---- lines

-- a document of at most four digits
abbrev pub short : Pair → Bool
short p = ltb p.document 10000

-- with a place of at most five: at most 13 bytes, and one for each ten of the count
length_line : (document count place : ℕ) → document < 10000 → place < 100000 → 10 * length (line_of document count place) ≤ 130 + count
length_line document count place d p =
    simp length-append (omega (arith, length-decimal document 3 d, tens_decimal count, length-decimal place 4 p))

pub length_lines : (place : ℕ → ℕ) → ((d : ℕ) → place d < 100000) → (ps : List Pair) → Every short ps
    → 10 * length (lines_of (flat_placed place ps)) ≤ 130 * length ps + entries_of ps
length_lines place low [] e = omega arith
length_lines place low (p ∷ ps) e =
    omega (
      arith,
      length-append (line_of p.document p.count (place p.document)) (lines_of (flat_placed place ps)),
      length_line p.document p.count (place p.document) (ltb-true p.document 10000 (every_head short p ps e)) (low p.document),
      length_lines place low ps (every_tail short p ps e),
    )

pub length_last : (word : List ℕ) (n k : ℕ) → n < 10 ^ suc k → length (last_line word n) ≤ length word + k + 2
length_last word n k l = simp length-append (omega (arith, length-decimal n k l))
