-- Numbers of nodes: no two nodes share one, they fit the table, and a half's number comes from its node's.
use Prim.Native.Nat.{ℕ, suc, ◌+◌, ◌*◌, ◌%◌, ◌^◌, ◌≤◌, ◌<◌}
use native.Mathlib.Omega.{arith}
use native.Mathlib.Nat.{le_of_lt, two-pow-succ}
use mathlib.Core.Path.{◌≡◌, ap}
use lib.Pow.{pow_mono}
use Rattle.bits.proofs.Bits.{shl_one_word}
use Rattle.bits.proofs.Tests.{Cmp, less, same, more, cmp}
use Rattle.model.specs.Walk.{key}
use Rattle.model.proofs.Wavelet.Rows.{key_half, key_lt, key-root}
use Rattle.listing.specs.Places.{number_of, holder}

-- ---- levels

-- a node's number tells its level
pub number-level : (j q k r : ℕ) → q < 2 ^ j → r < 2 ^ k → number_of j q ≡ number_of k r → j ≡ k
number-level j q k r l m e = go (cmp j k)
  where
    go : Cmp j k → j ≡ k
    go (same d) = d
    go (less d) = absurd (omega (arith, two-pow-succ j, pow_mono {i = suc j} {j = k} d))
    go (more d) = absurd (omega (arith, two-pow-succ k, pow_mono {i = suc k} {j = j} d))

-- .. and its place there
pub number-place : (j q k r : ℕ) → q < 2 ^ j → r < 2 ^ k → number_of j q ≡ number_of k r → q ≡ r
number-place j q k r l m e =
    let d = ap (λ (n : ℕ). 2 ^ n) (number-level j q k r l m e) in
    omega arith

-- a node above the leaves has a number below the leaves'
pub number_lt : (h j q : ℕ) → j < h → q < 2 ^ j → number_of j q < 2 ^ h
number_lt h j q l m = omega (arith, two-pow-succ j, pow_mono {i = suc j} {j = h} l)

-- the table has room for all
pub leaves_few : (h : ℕ) → h ≤ 12 → 2 ^ h ≤ 4096
leaves_few h l = pow_mono {j = 12} l

-- the first number of a level, as the code computes it
pub level-first : (j : ℕ) → j ≤ 12 → 1 * 2 ^ j % 18446744073709551616 ≡ 2 ^ j
level-first j l = shl_one_word j (omega arith)

-- ---- the nodes that hold a value

module _ (h v : ℕ) (b : v < 2 ^ h) where
  pub holder-root : holder h 0 v ≡ 1
  holder-root = omega (arith, key-root h v b)

  module _ (j : ℕ) (l : j < h) where
    pub holder_lt : holder h j v < 2 ^ h
    holder_lt = number_lt h j (key h j v) l (key_lt h j v (le_of_lt l) b)

    -- down by the next bit
    pub holder_next : 2 * holder h j v + key h (suc j) v % 2 ≡ holder h (suc j) v
    holder_next = omega (arith, two-pow-succ j, key_half h j v l)
