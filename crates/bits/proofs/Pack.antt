-- Rows of bits and their bytes are the same thing: both round trips of `pack` and `bits_of`.
use Prim.Native.Nat.{ℕ, zero, suc, ◌+◌, ◌-◌, ◌*◌, ◌/◌, ◌%◌, ◌^◌, ◌<◌}
use native.Mathlib.Omega.{arith}
use native.Mathlib.Decide.{dec_le}
use mathlib.Core.Path.{◌≡◌, sym, ap, ap₂, ◌∙◌}
use mathlib.Core.List.{List}
use mathlib.Core.Bool.{true}
use lib.ListN.{length, get_or, length-map, get_or-eq_default}
use lib.Seq.{ext_get_or}
use lib.Dec.{eqb}
use borrow.Author.Tests.{eqb-true, eq-eqb}
use Rattle.bits.specs.Sequences.{below}
use Rattle.bits.specs.Bits.{bit_at, bits_of, row_bytes, byte_of, pack, unused_clear}
use Rattle.bits.proofs.Tally.{length-up_from, get_or-map-below, all-up_from, all-up_from-at}
use Rattle.bits.proofs.Bits.{length-bits_of, get_or-bits_of}

-- ---- a byte and its eight bits

-- what holds of 0 to 7 holds below 8
eight : (P : ℕ → Type 0) → P 0 → P 1 → P 2 → P 3 → P 4 → P 5 → P 6 → P 7 → (r : ℕ) → r < 8 → P r
eight P p0 p1 p2 p3 p4 p5 p6 p7 zero l = p0
eight P p0 p1 p2 p3 p4 p5 p6 p7 (suc zero) l = p1
eight P p0 p1 p2 p3 p4 p5 p6 p7 (suc (suc zero)) l = p2
eight P p0 p1 p2 p3 p4 p5 p6 p7 (suc (suc (suc zero))) l = p3
eight P p0 p1 p2 p3 p4 p5 p6 p7 (suc (suc (suc (suc zero)))) l = p4
eight P p0 p1 p2 p3 p4 p5 p6 p7 (suc (suc (suc (suc (suc zero))))) l = p5
eight P p0 p1 p2 p3 p4 p5 p6 p7 (suc (suc (suc (suc (suc (suc zero)))))) l = p6
eight P p0 p1 p2 p3 p4 p5 p6 p7 (suc (suc (suc (suc (suc (suc (suc zero))))))) l = p7
eight P p0 p1 p2 p3 p4 p5 p6 p7 (suc (suc (suc (suc (suc (suc (suc (suc r)))))))) l = absurd (omega arith)

module _ (bits : List ℕ) (small : (i : ℕ) → get_or bits i 0 < 2) (k : ℕ) where
  -- bit r of byte k
  byte_bit : (r : ℕ) → r < 8 → byte_of bits k / 2 ^ r % 2 ≡ get_or bits (8 * k + r) 0
  byte_bit =
      let l0 = small (8 * k + 0) in
      let l1 = small (8 * k + 1) in
      let l2 = small (8 * k + 2) in
      let l3 = small (8 * k + 3) in
      let l4 = small (8 * k + 4) in
      let l5 = small (8 * k + 5) in
      let l6 = small (8 * k + 6) in
      let l7 = small (8 * k + 7) in
      eight (λ r. byte_of bits k / 2 ^ r % 2 ≡ get_or bits (8 * k + r) 0)
      (omega arith) (omega arith) (omega arith) (omega arith) (omega arith) (omega arith) (omega arith) (omega arith)

-- ---- packed bits

pub length-pack : (bits : List ℕ) → length (pack bits) ≡ row_bytes (length bits)
unfolding pack
length-pack bits = length-map (below (row_bytes (length bits))) (byte_of bits) ∙ length-up_from 0 (row_bytes (length bits))

get_or-pack : (bits : List ℕ) (k : ℕ) → k < row_bytes (length bits) → get_or (pack bits) k 0 ≡ byte_of bits k
unfolding pack
get_or-pack bits k l = get_or-map-below (byte_of bits) (row_bytes (length bits)) k 0 l

module _ (bits : List ℕ) (small : (i : ℕ) → get_or bits i 0 < 2) where
  -- bit i of the packed bits, inside the row and in its unused part
  bit_at-pack : (i : ℕ) → i < 8 * row_bytes (length bits) → bit_at (pack bits) i ≡ get_or bits i 0
  bit_at-pack i l =
      let e : 8 * (i / 8) + i % 8 ≡ i = omega arith in
      ap (λ (b : ℕ). b / 2 ^ (i % 8) % 2) (get_or-pack bits (i / 8) (omega arith))
      ∙ byte_bit bits small (i / 8) (i % 8) (omega arith)
      ∙ ap (λ (j : ℕ). get_or bits j 0) e

  -- the bits of packed bits are the bits
  pub bits_of-pack : bits_of (length bits) (pack bits) ≡ bits
  bits_of-pack =
      ext_get_or 0 (bits_of (length bits) (pack bits)) bits (length-bits_of (length bits) (pack bits))
      (λ i l.
      let m : i < length bits = rw (← length-bits_of (length bits) (pack bits)) l in
      get_or-bits_of (length bits) (pack bits) i m ∙ bit_at-pack i (omega arith))

  pub unused_pack : unused_clear (length bits) (pack bits) ≡ true
  unfolding unused_clear
  unused_pack =
      all-up_from (λ i. eqb (bit_at (pack bits) i) 0) (length bits) (8 * row_bytes (length bits) - length bits)
      (λ i a b. eq-eqb (bit_at (pack bits) i) 0 (bit_at-pack i (omega arith) ∙ get_or-eq_default bits 0 a))

-- ---- bytes with clear unused bits

-- halving eight times takes a byte apart into its bits
halvings : (b c1 c2 c3 c4 c5 c6 d0 d1 d2 d3 d4 d5 d6 d7 : ℕ)
    → b ≡ 2 * c1 + d0 → c1 ≡ 2 * c2 + d1 → c2 ≡ 2 * c3 + d2 → c3 ≡ 2 * c4 + d3 → c4 ≡ 2 * c5 + d4 → c5 ≡ 2 * c6 + d5 → c6 ≡ 2 * d7 + d6
    → d0 * 1 + (d1 * 2 + (d2 * 4 + (d3 * 8 + (d4 * 16 + (d5 * 32 + (d6 * 64 + (d7 * 128 + 0))))))) ≡ b
halvings b c1 c2 c3 c4 c5 c6 d0 d1 d2 d3 d4 d5 d6 d7 e0 e1 e2 e3 e4 e5 e6 = omega arith

byte_is : (b : ℕ) → b < 256
    → b / 1 % 2 * 1 + (b / 2 % 2 * 2 + (b / 4 % 2 * 4 + (b / 8 % 2 * 8 + (b / 16 % 2 * 16 + (b / 32 % 2 * 32 + (b / 64 % 2 * 64 + (b / 128 % 2 * 128 + 0)))))))
    ≡ b
byte_is b l =
    halvings b (b / 2) (b / 4) (b / 8) (b / 16) (b / 32) (b / 64)
    (b / 1 % 2) (b / 2 % 2) (b / 4 % 2) (b / 8 % 2) (b / 16 % 2) (b / 32 % 2) (b / 64 % 2) (b / 128 % 2)
    (omega arith) (omega arith) (omega arith) (omega arith) (omega arith) (omega arith) (omega arith)

module _ (n : ℕ) (row : List ℕ) (small : (k : ℕ) → get_or row k 0 < 256) (size : length row ≡ row_bytes n) (clear : unused_clear n row ≡ true) where
  -- the bits of the row, and zeros behind them
  bit_or_zero : (i : ℕ) → i < 8 * row_bytes n → get_or (bits_of n row) i 0 ≡ bit_at row i
  unfolding unused_clear
  bit_or_zero i l = go (dec_le (suc i) n)
    where
      go : Dec (i < n) → get_or (bits_of n row) i 0 ≡ bit_at row i
      go (yes h) = get_or-bits_of n row i h
      go (no h) =
          get_or-eq_default (bits_of n row) 0 {n = i} (rw (length-bits_of n row) (omega arith))
          ∙ sym (eqb-true (bit_at row i) 0 (all-up_from-at (λ j. eqb (bit_at row j) 0) n (8 * row_bytes n - n) clear i (omega arith) (omega arith)))

  byte_of_lem : (k : ℕ) → k < row_bytes n → byte_of (bits_of n row) k ≡ get_or row k 0
  byte_of_lem k l =
      (λ i.
      at 0 (omega arith) i * 2 ^ 0 + (at 1 (omega arith) i * 2 ^ 1 + (at 2 (omega arith) i * 2 ^ 2 + (at 3 (omega arith) i * 2 ^ 3
      + (at 4 (omega arith) i * 2 ^ 4 + (at 5 (omega arith) i * 2 ^ 5 + (at 6 (omega arith) i * 2 ^ 6 + (at 7 (omega arith) i * 2 ^ 7 + 0))))))))
      ∙ byte_is (get_or row k 0) (small k)
    where
      at : (r : ℕ) → r < 8 → get_or (bits_of n row) (8 * k + r) 0 ≡ get_or row k 0 / 2 ^ r % 2
      at r h =
          let d : (8 * k + r) / 8 ≡ k = omega arith in
          let m : (8 * k + r) % 8 ≡ r = omega arith in
          bit_or_zero (8 * k + r) (omega arith) ∙ ap₂ (λ (q s : ℕ). get_or row q 0 / 2 ^ s % 2) d m

  -- the bytes of a row's bits are the row
  pub pack-bits_of : pack (bits_of n row) ≡ row
  pack-bits_of =
      let e : length (pack (bits_of n row)) ≡ row_bytes n = length-pack (bits_of n row) ∙ ap row_bytes (length-bits_of n row) in
      ext_get_or 0 (pack (bits_of n row)) row (e ∙ sym size)
      (λ k l.
      let m : k < row_bytes n = omega arith in
      get_or-pack (bits_of n row) k (rw (length-bits_of n row) m) ∙ byte_of_lem k m)
