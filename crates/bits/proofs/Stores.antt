-- Laws of what is written: a number of 32 bits, a bit of a row, and a row's unused bits.
use mathlib.Core.Path.{◌≡◌, refl, sym, ap, ◌∙◌}
use mathlib.Core.Logic.{◌≢◌, ◌⊎◌, inl, inr}
use mathlib.Core.Bool.{Bool, true, false}
use mathlib.Core.List.{List}
use Prim.Native.Nat.{ℕ, zero, suc, ◌+◌, ◌-◌, ◌*◌, ◌/◌, ◌%◌, ◌^◌, ◌≤◌, ◌<◌}
use native.Mathlib.Nat.{add-zero, zero-mul, one-mul, pow-suc, add-div_right, add-mul-div_right, div-lt_iff_lt-mul, zero-div}
use native.Mathlib.Decide.{ℕ_discrete}
use native.Mathlib.Numerals.{one-add}
use native.Mathlib.Omega.{arith}
use lib.Dec.{eqb}
use lib.ListN.{length, get_or}
use lib.Pow.{pow_pos, pow-add, shr-shr, shr_lt}
use lib.Seq.{get_or-set_same, get_or-set_other}
use borrow.Author.Tests.{eqb-true, eqb-false, eq-eqb}
use Rattle.bits.specs.Bits.{bit_at, row_bytes, unused_clear}
use Rattle.bits.specs.Rows.{with_bit}
use Rattle.bits.proofs.Tests.{le_or_lt}
use Rattle.bits.proofs.Tally.{all-up_from, all-up_from-at}

-- ---- a bit that is set

module _ (b r : ℕ) (clear : b / 2 ^ r % 2 ≡ 0) where
  -- a byte with a bit more is a byte
  byte_fits : b < 256 → r < 8 → b + 2 ^ r < 256
  byte_fits h l =
      let s : 8 - r + r ≡ 8 = omega arith in
      let t : suc (7 - r) ≡ 8 - r = omega arith in
      let q : b / 2 ^ r < 2 ^ (8 - r) = shr_lt (8 - r) r (rw s h) in
      let e : 2 ^ (8 - r) ≡ 2 ^ (7 - r) * 2 = rw t at (pow-suc 2 (7 - r)) in
      let u : (b + 2 ^ r) / 2 ^ r < 2 ^ (8 - r) = rw (add-div_right b (pow_pos r)) (omega arith) in
      rw (← pow-add 2 (8 - r) r, s) at ((div-lt_iff_lt-mul (pow_pos r)).0 u)

  byte_same : (b + 2 ^ r) / 2 ^ r % 2 ≡ 1
  byte_same = rw (add-div_right b (pow_pos r)) (omega arith)

  byte_lower : (j m : ℕ) → j + suc m ≡ r → (b + 2 ^ r) / 2 ^ j % 2 ≡ b / 2 ^ j % 2
  byte_lower j m e =
      let p : 2 ^ r ≡ 2 ^ suc m * 2 ^ j = ap (λ (k : ℕ). 2 ^ k) (omega arith) ∙ pow-add 2 (suc m) j in
      rw (p, add-mul-div_right b (2 ^ suc m) (pow_pos j)) (omega (arith, pow-suc 2 m))

  byte_higher : (j m : ℕ) → r + suc m ≡ j → (b + 2 ^ r) / 2 ^ j % 2 ≡ b / 2 ^ j % 2
  byte_higher j m e =
      let p : r + (1 + m) ≡ j = omega arith in
      let half : (b / 2 ^ r + 1) / 2 ≡ b / 2 ^ r / 2 = omega arith in
      let up : (x : ℕ) → x / 2 ^ j ≡ x / 2 ^ r / 2 / 2 ^ m = λ x. sym (shr-shr (x / 2 ^ r) 1 m ∙ rw p at (shr-shr x r (1 + m))) in
      rw (up (b + 2 ^ r), up b, add-div_right b (pow_pos r), half)

  byte_other : (j : ℕ) → j ≢ r → (b + 2 ^ r) / 2 ^ j % 2 ≡ b / 2 ^ j % 2
  byte_other j ne = go (le_or_lt j r)
    where
      go : (j ≤ r) ⊎ (r < j) → (b + 2 ^ r) / 2 ^ j % 2 ≡ b / 2 ^ j % 2
      go (inl h) = byte_lower j (r - j - 1) (omega arith)
      go (inr h) = byte_higher j (j - r - 1) (omega arith)

-- a byte with bit r stored where a 0 stands
stored_same : (b r c : ℕ) → b / 2 ^ r % 2 ≡ 0 → c < 2 → (b + c * 2 ^ r) / 2 ^ r % 2 ≡ c
stored_same b r zero clear l = rw (zero-mul (2 ^ r), add-zero b) clear
stored_same b r (suc zero) clear l = rw (one-mul (2 ^ r)) (byte_same b r clear)
stored_same b r (suc (suc c)) clear l = absurd (omega arith)

stored_other : (b r c : ℕ) → b / 2 ^ r % 2 ≡ 0 → c < 2 → (j : ℕ) → j ≢ r → (b + c * 2 ^ r) / 2 ^ j % 2 ≡ b / 2 ^ j % 2
stored_other b r zero clear l j ne = rw (zero-mul (2 ^ r), add-zero b)
stored_other b r (suc zero) clear l j ne = rw (one-mul (2 ^ r)) (byte_other b r clear j ne)
stored_other b r (suc (suc c)) clear l j ne = absurd (omega arith)

pub stored_fits : (b r c : ℕ) → b / 2 ^ r % 2 ≡ 0 → c < 2 → b < 256 → r < 8 → b + c * 2 ^ r < 256
stored_fits b r zero clear l h m = rw (zero-mul (2 ^ r), add-zero b) h
stored_fits b r (suc zero) clear l h m = rw (one-mul (2 ^ r)) (byte_fits b r clear h m)
stored_fits b r (suc (suc c)) clear l h m = absurd (omega arith)

module _ (row : List ℕ) (i b : ℕ) (within : i < 8 * length row) (clear : bit_at row i ≡ 0) (bit : b < 2) where
  pub bit_at-with_bit : bit_at (with_bit row i b) i ≡ b
  bit_at-with_bit =
      rw (get_or-set_same row (i / 8) (get_or row (i / 8) 0 + b * 2 ^ (i % 8)) 0 (omega arith)) (stored_same (get_or row (i / 8) 0) (i % 8) b clear bit)

  pub bit_at-with_bit-other : (k : ℕ) → k ≢ i → bit_at (with_bit row i b) k ≡ bit_at row k
  bit_at-with_bit-other k ne = go (ℕ_discrete (k / 8) (i / 8))
    where
      go : Dec (k / 8 ≡ i / 8) → bit_at (with_bit row i b) k ≡ bit_at row k
      go (yes e) =
          let d : k % 8 ≢ i % 8 = omega arith in
          rw (e, get_or-set_same row (i / 8) (get_or row (i / 8) 0 + b * 2 ^ (i % 8)) 0 (omega arith)) (stored_other (get_or row (i / 8) 0) (i % 8) b clear bit (k % 8) d)
      go (no d) = rw (get_or-set_other row (i / 8) (k / 8) (get_or row (i / 8) 0 + b * 2 ^ (i % 8)) 0 d)

-- ---- unused bits

-- a number whose bits are all 0 is 0
zero_bits : (m x : ℕ) → x < 2 ^ m → ((j : ℕ) → j < m → x / 2 ^ j % 2 ≡ 0) → x ≡ 0
zero_bits zero x h bits = omega arith
zero_bits (suc m) x h bits =
    let e = pow-suc 2 m in
    let rest : (j : ℕ) → j < m → x / 2 / 2 ^ j % 2 ≡ 0 = λ j l. rw (one-add j) at (ap (λ (y : ℕ). y % 2) (shr-shr x 1 j)) ∙ bits (suc j) (omega arith) in
    omega (arith, zero_bits m (x / 2) (omega arith) rest, bits 0 (omega arith))

pub unused_none : (n : ℕ) (row : List ℕ) → n % 8 ≡ 0 → unused_clear n row ≡ true
unfolding unused_clear
unused_none n row e =
    let z : 8 * row_bytes n - n ≡ 0 = omega arith in
    rw z

pub unused_byte : (n : ℕ) (row : List ℕ) → (n % 8 ≡ 0 → ⊥) → get_or row (n / 8) 0 < 256
    → unused_clear n row ≡ eqb (get_or row (n / 8) 0 / 2 ^ (n % 8)) 0
unfolding unused_clear
unused_byte n row ne h = go (eqb x 0) refl
  where
    x : ℕ
    x = get_or row (n / 8) 0 / 2 ^ (n % 8)

    -- bit j of what is shifted out is an unused bit of the row
    bit-of : (i j : ℕ) → n + j ≡ i → n % 8 + j < 8 → bit_at row i ≡ x / 2 ^ j % 2
    bit-of i j e l =
        let p : i / 8 ≡ n / 8 = omega arith in
        let q : i % 8 ≡ n % 8 + j = omega arith in
        rw (p, q, ← shr-shr (get_or row (n / 8) 0) (n % 8) j)

    clear : Bool
    clear = unused_clear n row

    ends : (t : Bool) → clear ≡ t → (x ≡ 0 → ⊥) → t ≡ false
    ends true e d =
        let s : 8 - n % 8 + n % 8 ≡ 8 = omega arith in
        absurd (d (zero_bits (8 - n % 8) x (shr_lt (8 - n % 8) (n % 8) (rw s h)) (λ j l.
        sym (bit-of (n + j) j refl (omega arith))
        ∙ eqb-true (bit_at row (n + j)) 0 (all-up_from-at (λ i. eqb (bit_at row i) 0) n (8 * row_bytes n - n) e (n + j) (omega arith) (omega arith)))))
    ends false e d = refl

    go : (t : Bool) → eqb x 0 ≡ t → clear ≡ t
    go true e =
        let z : x ≡ 0 = eqb-true x 0 e in
        all-up_from (λ i. eqb (bit_at row i) 0) n (8 * row_bytes n - n) (λ i l m. eq-eqb (bit_at row i) 0 (bit-of i (i - n) (omega arith) (omega arith) ∙ rw (z, zero-div)))
    go false e = ends clear refl (eqb-false x 0 e)
