-- The height of a tree: 2 ^ height N is at least N, and no smaller power is.
use Prim.Native.Nat.{ℕ, zero, suc, ◌+◌, ◌^◌, ◌≤◌, ◌<◌, zero-le}
use mathlib.Core.Path.{◌≡◌}
use mathlib.Core.Bool.{true, false}
use mathlib.Core.Logic.{◌⊎◌, inl, inr}
use native.Mathlib.Nat.{zero-add, add-zero, add-suc, suc-add, le_of_lt, two-pow-succ}
use native.Mathlib.Omega.{arith}
use native.Mathlib.Decide.{dec_le}
use lib.Pow.{pow_mono}
use lib.Dec.{leb}
use borrow.Author.Tests.{leb-true, leb-false}
use Rattle.bits.proofs.Tests.{look}
use Rattle.model.specs.Rows.{height_from, height}

lt_two-pow : (n : ℕ) → n < 2 ^ n
lt_two-pow zero = omega arith
lt_two-pow (suc n) = rw two-pow-succ (omega (arith, lt_two-pow n))

le_pow-height_from : (tries h N : ℕ) → N ≤ 2 ^ (h + tries) → N ≤ 2 ^ height_from tries h N
le_pow-height_from zero h N l = rw add-zero at l
le_pow-height_from (suc tries) h N l = go (look (leb N (2 ^ h))) (le_pow-height_from tries (suc h) N (rw suc-add (rw add-suc at l)))
  where
    go : (leb N (2 ^ h) ≡ true) ⊎ (leb N (2 ^ h) ≡ false) → N ≤ 2 ^ height_from tries (suc h) N → N ≤ 2 ^ height_from (suc tries) h N
    go (inl e) ih = rw e (leb-true N (2 ^ h) e)
    go (inr e) ih = rw e ih

pub le_pow-height : (N : ℕ) → N ≤ 2 ^ height N
le_pow-height N = le_pow-height_from N 0 N (rw zero-add (le_of_lt (lt_two-pow N)))

height_from_le : (tries h N g : ℕ) → h ≤ g → N ≤ 2 ^ g → height_from tries h N ≤ g
height_from_le zero h N g l m = l
height_from_le (suc tries) h N g l m = go (look (leb N (2 ^ h))) (height_from_le tries (suc h) N g)
  where
    higher : 2 ^ h < N → Dec (suc h ≤ g) → suc h ≤ g
    higher f (yes k) = k
    higher f (no k) = let p : 2 ^ g ≤ 2 ^ h = pow_mono (omega arith) in omega arith

    go : (leb N (2 ^ h) ≡ true) ⊎ (leb N (2 ^ h) ≡ false) → (suc h ≤ g → N ≤ 2 ^ g → height_from tries (suc h) N ≤ g) → height_from (suc tries) h N ≤ g
    go (inl e) ih = rw e l
    go (inr e) ih = rw e (ih (higher (leb-false N (2 ^ h) e) (dec_le (suc h) g)) m)

pub height_le : (N g : ℕ) → N ≤ 2 ^ g → height N ≤ g
height_le N g l = height_from_le N 0 N g zero-le l

pub lt_height : (N h : ℕ) → 2 ^ h < N → h < height N
lt_height N h l = go (dec_le (suc h) (height N))
  where
    go : Dec (h < height N) → h < height N
    go (yes k) = k
    go (no k) = let p : 2 ^ height N ≤ 2 ^ h = pow_mono (omega arith) in omega (arith, le_pow-height N)

pub height_le_12 : (N : ℕ) → N ≤ 4096 → height N ≤ 12
height_le_12 N l = height_le N 12 l
