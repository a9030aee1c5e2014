-- Laws of the bits of a row of bytes: its list of bits, the counts below a place, and the counts of bytes and words.
use mathlib.Core.Path.{◌≡◌, refl, sym, ap, ◌∙◌}
use mathlib.Core.Logic.{◌⊎◌, inl, inr}
use mathlib.Core.Bool.{Bool, true, false}
use mathlib.Core.List.{List, [], ◌∷◌, ◌++◌, map}
use Prim.Native.Nat.{ℕ, zero, suc, ◌+◌, ◌-◌, ◌*◌, ◌/◌, ◌%◌, ◌^◌, ◌≤◌, ◌<◌}
use native.Mathlib.Nat.{le_refl, add_assoc, le_of_suc-le-suc, not-suc-le-zero, zero-add, mod-eq_of_lt}
use native.Mathlib.Numerals.{one-add}
use native.Mathlib.Omega.{arith}
use lib.Count.{ones, ones_cat}
use lib.Dec.{eqb, lit<, lit≤}
use lib.ListN.{length, take, get_or, length-map}
use lib.Pow.{pow_pos, mod-pow-add, mod-mod-pow, shl_exact}
use Rattle.bits.specs.Bits.{bit_at, bits_of}
use Rattle.bits.specs.Rows.{count_below, of_kind, word_at}
use Rattle.bits.specs.Sequences.{bit, up_from, below, occurrences, rank}
use Rattle.bits.proofs.Tests.{le_or_lt}
use Rattle.bits.proofs.Tally.{tally-append, map-append, up_from_snoc, length-up_from, get_or-map-below}
use Rattle.bits.proofs.Sequences.{rank_le, rank_mono}

-- ---- the list of bits

pub length-bits_of : (n : ℕ) (row : List ℕ) → length (bits_of n row) ≡ n
unfolding bits_of
length-bits_of n row = length-map (below n) (bit_at row) ∙ length-up_from 0 n

pub bits_of-suc : (n : ℕ) (row : List ℕ) → bits_of (suc n) row ≡ bits_of n row ++ (bit_at row n ∷ [])
unfolding bits_of
bits_of-suc n row =
    ap (map (bit_at row)) (up_from_snoc 0 n) ∙ map-append (bit_at row) (below n) ((0 + n) ∷ [])
    ∙ ap (λ (m : ℕ). map (bit_at row) (below n) ++ (bit_at row m ∷ [])) (zero-add n)

take-map-up_from : (f : ℕ → ℕ) (s n i : ℕ) → i ≤ n → take i (map f (up_from s n)) ≡ map f (up_from s i)
take-map-up_from f s n zero h = refl
take-map-up_from f s zero (suc i) h = absurd (not-suc-le-zero h)
take-map-up_from f s (suc n) (suc i) h = ap (λ (l : List ℕ). f s ∷ l) (take-map-up_from f (suc s) n i (le_of_suc-le-suc h))

-- the bits below a place
pub take-bits_of : (n : ℕ) (row : List ℕ) (i : ℕ) → i ≤ n → take i (bits_of n row) ≡ bits_of i row
unfolding bits_of
take-bits_of n row i h = take-map-up_from (bit_at row) 0 n i h

pub get_or-bits_of : (n : ℕ) (row : List ℕ) (i : ℕ) → i < n → get_or (bits_of n row) i 0 ≡ bit_at row i
unfolding bits_of
get_or-bits_of n row i h = get_or-map-below (bit_at row) n i 0 h

pub bit_at_lt : (row : List ℕ) (i : ℕ) → bit_at row i < 2
bit_at_lt row i = omega arith

-- ---- counts below a place

pub rank-bits_of : (v n : ℕ) (row : List ℕ) (i : ℕ) → i ≤ n → rank v (bits_of n row) i ≡ count_below v row i
unfolding count_below
rank-bits_of v n row i h = ap (occurrences v) (take-bits_of n row i h)

pub count-zero : (v : ℕ) (row : List ℕ) → count_below v row 0 ≡ 0
unfolding count_below bits_of
count-zero v row = refl

pub count-suc : (v : ℕ) (row : List ℕ) (i : ℕ) → count_below v row (suc i) ≡ count_below v row i + bit (eqb v (bit_at row i))
unfolding count_below
count-suc v row i =
    omega (arith, ap (occurrences v) (bits_of-suc i row), tally-append (eqb v) (bits_of i row) (bit_at row i ∷ []))

pub count_le : (v : ℕ) (row : List ℕ) (i : ℕ) → count_below v row i ≤ i
count_le v row i = rw (rank-bits_of v i row i (le_refl i)) at (rank_le v (bits_of i row) i)

pub count_mono : (v : ℕ) (row : List ℕ) (i k : ℕ) → i ≤ k → count_below v row i ≤ count_below v row k
count_mono v row i k h =
    let r = rank_mono v (bits_of k row) i k h in
    rw (rank-bits_of v k row i h, rank-bits_of v k row k (le_refl k)) at r

bit_kinds : (x : ℕ) → x < 2 → (bit (eqb 1 x) ≡ x) × (bit (eqb 0 x) + x ≡ 1)
bit_kinds zero h = omega arith
bit_kinds (suc zero) h = omega arith
bit_kinds (suc (suc x)) h = absurd (not-suc-le-zero (le_of_suc-le-suc (le_of_suc-le-suc h)))

-- one place more adds the bit
pub ones-suc : (row : List ℕ) (i : ℕ) → count_below 1 row (suc i) ≡ count_below 1 row i + bit_at row i
ones-suc row i = omega (arith, count-suc 1 row i, bit_kinds (bit_at row i) (omega arith))

-- the zeros and the ones are all the places
pub count_both : (row : List ℕ) (i : ℕ) → count_below 0 row i + count_below 1 row i ≡ i
count_both row zero = omega (arith, count-zero 0 row, count-zero 1 row)
count_both row (suc i) =
    omega (arith, count-suc 0 row i, count-suc 1 row i, bit_kinds (bit_at row i) (omega arith), count_both row i)

pub count_kind : (v : Bool) (row : List ℕ) (i : ℕ) → of_kind v i (count_below 1 row i) ≡ count_below (bit v) row i
count_kind true row i = refl
count_kind false row i = omega (arith, count_both row i)

-- ---- bytes and words

-- m bytes from byte k on as a number, low byte first
bytes_at : List ℕ → ℕ → ℕ → ℕ
bytes_at row k zero = 0
bytes_at row k (suc m) = bytes_at row (k + 1) m * 2 ^ 8 + get_or row k 0

ones_bit : (x : ℕ) → ones (x % 2) ≡ x % 2
unfolding ones
ones_bit x = go (x % 2) (omega arith)
  where
    go : (b : ℕ) → b < 2 → ones b ≡ b
    go zero h = refl
    go (suc zero) h = refl
    go (suc (suc b)) h = absurd (not-suc-le-zero (le_of_suc-le-suc (le_of_suc-le-suc h)))

-- the ones below bit j of byte k
pub ones_byte : (row : List ℕ) (k j : ℕ) → j ≤ 8 → count_below 1 row (8 * k + j) ≡ count_below 1 row (8 * k) + ones (get_or row k 0 % 2 ^ j)
ones_byte row k zero h =
    let e : get_or row k 0 % 2 ^ 0 ≡ 0 = omega arith in
    let p : 8 * k + 0 ≡ 8 * k = omega arith in
    rw (e, p) (unfold ones in omega arith)
ones_byte row k (suc j) h =
    let b = get_or row k 0 in
    let p : 8 * k + suc j ≡ suc (8 * k + j) = omega arith in
    let q : (8 * k + j) / 8 ≡ k = omega arith in
    let r : (8 * k + j) % 8 ≡ j = omega arith in
    let s : bit_at row (8 * k + j) ≡ b / 2 ^ j % 2 = rw (q, r) in
    let t : b % 2 ^ suc j ≡ b / 2 ^ j % 2 * 2 ^ j + b % 2 ^ j = ap (λ (m : ℕ). b % 2 ^ m) (sym (one-add j)) ∙ mod-pow-add b 1 j in
    omega (
      arith,
      ap (count_below 1 row) p,
      ones-suc row (8 * k + j),
      ones_byte row k j (omega arith),
      ap ones t,
      ones_cat j (b / 2 ^ j % 2) (b % 2 ^ j) (native.Mathlib.Nat.mod-lt b (pow_pos j)),
      ones_bit (b / 2 ^ j),
    )

-- one byte more
pub ones_next : (row : List ℕ) (k : ℕ) → get_or row k 0 < 256 → count_below 1 row (8 * (k + 1)) ≡ count_below 1 row (8 * k) + ones (get_or row k 0)
ones_next row k b =
    let p : 8 * k + 8 ≡ 8 * (k + 1) = omega arith in
    let q : get_or row k 0 % 2 ^ 8 ≡ get_or row k 0 = omega arith in
    rw (p, q) at (ones_byte row k 8 (lit≤ tt))

module _ (row : List ℕ) (bytes : (i : ℕ) → get_or row i 0 < 256) where
  -- the ones below bit j of the m bytes from byte k on
  ones-bytes : (m k j : ℕ) → j ≤ 8 * m → count_below 1 row (8 * k + j) ≡ count_below 1 row (8 * k) + ones (bytes_at row k m % 2 ^ j)
  unfolding bytes_at
  ones-bytes zero k j h =
      let e : j ≡ 0 = omega arith in
      let p : 8 * k + 0 ≡ 8 * k = omega arith in
      rw (e, p) (unfold ones in omega arith)
  ones-bytes (suc m) k j h = go (ones-bytes m (k + 1)) (le_or_lt j 8)
    where
      rest : ℕ
      rest = bytes_at row (k + 1) m

      b : ℕ
      b = get_or row k 0

      whole : ℕ
      whole = rest * 2 ^ 8 + b

      go : ((j : ℕ) → j ≤ 8 * m → count_below 1 row (8 * (k + 1) + j) ≡ count_below 1 row (8 * (k + 1)) + ones (rest % 2 ^ j))
          → (j ≤ 8) ⊎ (8 < j) → count_below 1 row (8 * k + j) ≡ count_below 1 row (8 * k) + ones (whole % 2 ^ j)
      go more (inl l) =
          let low : whole % 2 ^ 8 ≡ b = omega (arith, bytes k) in
          let s : 8 - j + j ≡ 8 = omega arith in
          let e : whole % 2 ^ j ≡ b % 2 ^ j = sym (rw (s, low) at (mod-mod-pow whole (8 - j) j)) in
          rw e (ones_byte row k j l)
      go more (inr l) =
          let i = j - 8 in
          let p : 8 * (k + 1) + i ≡ 8 * k + j = omega arith in
          let s : i + 8 ≡ j = omega arith in
          let high : whole / 2 ^ 8 ≡ rest = omega (arith, bytes k) in
          let low : whole % 2 ^ 8 ≡ b = omega (arith, bytes k) in
          let e : whole % 2 ^ j ≡ rest % 2 ^ i * 2 ^ 8 + b = rw (s, high, low) at (mod-pow-add whole i 8) in
          omega (
            arith,
            ap (count_below 1 row) p,
            more i (omega arith),
            ones_next row k (bytes k),
            ap ones e,
            ones_cat 8 (rest % 2 ^ i) b (bytes k),
          )

  word_bytes : (k : ℕ) → word_at row k ≡ bytes_at row k 8
  unfolding bytes_at
  word_bytes k = simp add_assoc (omega arith)

  pub word_lt : (k : ℕ) → word_at row k < 2 ^ 64
  word_lt k =
      omega (arith, bytes k, bytes (k + 1), bytes (k + 2), bytes (k + 3), bytes (k + 4), bytes (k + 4 + 1), bytes (k + 4 + 2), bytes (k + 4 + 3))

  -- the ones below bit j of the word at byte k
  pub ones_word : (k j : ℕ) → j ≤ 64 → count_below 1 row (8 * k + j) ≡ count_below 1 row (8 * k) + ones (word_at row k % 2 ^ j)
  ones_word k j h = rw (word_bytes k) (ones-bytes 8 k j h)

  -- one word more
  pub ones_next_word : (k : ℕ) → count_below 1 row (8 * (k + 8)) ≡ count_below 1 row (8 * k) + ones (word_at row k)
  ones_next_word k =
      let p : 8 * k + 64 ≡ 8 * (k + 8) = omega arith in
      rw (p, mod-eq_of_lt (word_lt k)) at (ones_word k 64 (lit≤ tt))

-- a shift of 1 by less than a byte's width
pub shl_one : (r : ℕ) → r < 8 → 1 * 2 ^ r % 256 ≡ 2 ^ r
shl_one r h = shl_exact {a = 1} 1 r 8 (lit< tt) (omega arith) ∙ omega arith

-- and by less than a word's
pub shl_one_word : (r : ℕ) → r < 64 → 1 * 2 ^ r % 2 ^ 64 ≡ 2 ^ r
shl_one_word r h = shl_exact {a = 1} 1 r 64 (lit< tt) (omega arith) ∙ omega arith

pub shl_bit : (b r : ℕ) → b < 2 → r < 8 → b * 2 ^ r % 256 ≡ b * 2 ^ r
shl_bit b r l h = shl_exact {a = b} 1 r 8 l (omega arith)

-- where the ones grow by x over w places, the bits of a kind grow by those of w places with x ones
pub kind_add : (v : Bool) (row : List ℕ) (a e w x : ℕ) → a + w ≡ e → x ≤ w → count_below 1 row e ≡ count_below 1 row a + x
    → count_below (bit v) row e ≡ count_below (bit v) row a + of_kind v w x
kind_add true row a e w x p h q = q
kind_add false row a e w x p h q = omega (arith, count_both row a, count_both row e)
