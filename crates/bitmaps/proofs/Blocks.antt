-- The word of a block of documents: it fits in as many bits as the block has documents, and bit j of it tells of document j.
use Prim.Native.Nat.{ℕ, zero, suc, ◌+◌, ◌-◌, ◌*◌, ◌/◌, ◌%◌, ◌^◌, ◌≤◌, ◌<◌}
use native.Mathlib.Nat.{pow-suc, mul_comm, mul_assoc, mul-suc, mul-le-mul_left, add-suc, div-div-eq-div-mul, div-one}
use native.Mathlib.Omega.{arith}
use native.Mathlib.Decide.{dec_le}
use mathlib.Core.Path.{◌≡◌, refl, sym, ap, ◌∙◌}
use mathlib.Core.Bool.{Bool, true, false}
use lib.Dec.{eqb}
use lib.Pow.{pow-add}
use Rattle.bits.specs.Sequences.{bit}
use Rattle.bitmaps.specs.Bitmaps.{block_word}

-- ---- powers

pub twice_over : (m b : ℕ) → 2 ^ suc m * b ≡ 2 * (2 ^ m * b)
twice_over m b = ap (λ n. n * b) (pow-suc 2 m ∙ mul_comm (2 ^ m) 2) ∙ mul_assoc 2 (2 ^ m) b

pub double : (k : ℕ) → 2 ^ (2 ^ suc k) ≡ 2 ^ (2 ^ k) * 2 ^ (2 ^ k)
double k =
    let power : 2 ^ suc k ≡ 2 ^ k + 2 ^ k = omega (arith, pow-suc 2 k) in
    ap (λ n. 2 ^ n) power ∙ pow-add 2 (2 ^ k) (2 ^ k)

-- two digits of base m
pub digits_fit : (m a b : ℕ) → a < m → b < m → a + m * b < m * m
digits_fit m a b h k = omega (arith, mul-le-mul_left m k, mul-suc m b)

-- ---- bit j of a word

abbrev digit : ℕ → ℕ → Bool
digit a j = eqb (a / 2 ^ j % 2) 1

digit-suc : (a j : ℕ) → digit a (suc j) ≡ digit (a / 2) j
digit-suc a j = ap (λ n. eqb (n % 2) 1) (ap (λ n. a / n) (pow-suc 2 j ∙ mul_comm (2 ^ j) 2) ∙ sym (div-div-eq-div-mul a 2 (2 ^ j)))

digit-zero : (a : ℕ) → digit a 0 ≡ eqb (a % 2) 1
digit-zero a = ap (λ n. eqb (n % 2) 1) (div-one a)

digit_low : (m a b j : ℕ) → j < m → digit (a + 2 ^ m * b) j ≡ digit a j
digit_low zero a b j h = absurd (omega arith)
digit_low (suc m) a b zero h =
    let low : (a + 2 ^ suc m * b) % 2 ≡ a % 2 = omega (arith, twice_over m b) in
    rw (digit-zero (a + 2 ^ suc m * b), digit-zero a, low)
digit_low (suc m) a b (suc j) h =
    let rest : (a + 2 ^ suc m * b) / 2 ≡ a / 2 + 2 ^ m * b = omega (arith, twice_over m b) in
    rw (digit-suc (a + 2 ^ suc m * b) j, digit-suc a j, rest) (digit_low m (a / 2) b j (omega arith))

digit-high : (m a b i : ℕ) → a < 2 ^ m → digit (a + 2 ^ m * b) (i + m) ≡ digit b i
digit-high zero a b i h = λ x. digit (both x) (place x)
  where
    both : a + 1 * b ≡ b
    both = omega arith

    place : i + 0 ≡ i
    place = omega arith
digit-high (suc m) a b i h =
    let rest : (a + 2 ^ suc m * b) / 2 ≡ a / 2 + 2 ^ m * b = omega (arith, twice_over m b) in
    rw (add-suc i m, digit-suc (a + 2 ^ suc m * b) (i + m), rest) (digit-high m (a / 2) b i (omega (arith, pow-suc 2 m)))

-- ---- the word of a block

pub block_fits : (in? : ℕ → Bool) (k start : ℕ) → block_word in? k start < 2 ^ (2 ^ k)
block_fits in? zero start = go (in? start)
  where
    go : (b : Bool) → bit b < 2
    go true = omega arith
    go false = omega arith
block_fits in? (suc k) start =
    rw (double k) (digits_fit (2 ^ (2 ^ k)) (block_word in? k start) (block_word in? k (start + 2 ^ k)) (block_fits in? k start) (block_fits in? k (start + 2 ^ k)))

pub holds_block : (in? : ℕ → Bool) (k start j : ℕ) → j < 2 ^ k → eqb (block_word in? k start / 2 ^ j % 2) 1 ≡ in? (start + j)
holds_block in? zero start j h = rw (first, place) (go (in? start))
  where
    first : j ≡ 0
    first = omega arith

    place : start + 0 ≡ start
    place = omega arith

    go : (b : Bool) → digit (bit b) 0 ≡ b
    go true = refl
    go false = refl
holds_block in? (suc k) start j h = by (dec_le (2 ^ k) j) (holds_block in? k start j) (λ l. holds_block in? k (start + 2 ^ k) (j - 2 ^ k) (omega (arith, pow-suc 2 k)))
  where
    upper : (i : ℕ) → j ≡ i + 2 ^ k → digit (block_word in? k (start + 2 ^ k)) i ≡ in? (start + 2 ^ k + i) → digit (block_word in? (suc k) start) j ≡ in? (start + j)
    upper i e one =
        let place : start + 2 ^ k + i ≡ start + (i + 2 ^ k) = omega arith in
        rw e (digit-high (2 ^ k) (block_word in? k start) (block_word in? k (start + 2 ^ k)) i (block_fits in? k start) ∙ one ∙ ap in? place)

    by : Dec (2 ^ k ≤ j) → (j < 2 ^ k → digit (block_word in? k start) j ≡ in? (start + j))
        → (2 ^ k ≤ j → digit (block_word in? k (start + 2 ^ k)) (j - 2 ^ k) ≡ in? (start + 2 ^ k + (j - 2 ^ k))) → digit (block_word in? (suc k) start) j ≡ in? (start + j)
    by (yes l) first second = upper (j - 2 ^ k) (omega arith) (second l)
    by (no l) first second = digit_low (2 ^ k) (block_word in? k start) (block_word in? k (start + 2 ^ k)) j (omega arith) ∙ first (omega arith)
