-- Numbers that ascend: up to a place, by places, and the largest of a set.
use Prim.Native.Nat.{ℕ, zero, suc, ◌+◌, ◌-◌, ◌≤◌, ◌<◌}
use native.Mathlib.Omega.{arith}
use native.Mathlib.Nat.{le_of_lt}
use mathlib.Core.Path.{◌≡◌, sym, ap, ◌∙◌}
use mathlib.Core.Logic.{◌⊎◌, inl, inr}
use mathlib.Core.List.{List}
use mathlib.Core.Bool.{true, false}
use lib.ListN.{length, get_or}
use lib.Dec.{leb}
use borrow.Author.Tests.{le-leb, lt-leb}
use Rattle.bits.proofs.Tests.{look, le_or_lt}
use Rattle.model.specs.Lists.{any}
use Rattle.model.specs.RankSet.{ascending}
use Rattle.model.proofs.Any.{any_at}
use Rattle.model.proofs.Lists.{within_of}
use Rattle.model.proofs.Format.Valid.{any_within}
use Rattle.model.proofs.RankSet.Ascending.{ascending-at, ascending-of}
use Rattle.rank_set.specs.Sets.{Ascends}

-- ---- up to a place

-- each of the first so many numbers is below the next of them
abbrev pub Rising : List ℕ → ℕ → Type 0
Rising set to = (i : ℕ) → i + 1 < to → get_or set i 0 < get_or set (i + 1) 0

pub rising_next : (set : List ℕ) (i : ℕ) → Rising set i → get_or set (i - 1) 0 < get_or set i 0 → Rising set (i + 1)
rising_next set i h l k b = go (le_or_lt i (k + 1))
  where
    go : (i ≤ k + 1) ⊎ (k + 1 < i) → get_or set k 0 < get_or set (k + 1) 0
    go (inl e) =
        let this : i ≡ k + 1 = omega arith in
        let last : i - 1 ≡ k = omega arith in
        omega (arith, l, ap (λ (m : ℕ). get_or set m 0) this, ap (λ (m : ℕ). get_or set m 0) last)
    go (inr e) = h k e

pub rising_all : (set : List ℕ) (i : ℕ) → Rising set i → length set ≤ i → true ≡ ascending set
rising_all set i h l =
    sym (ascending-of set (λ k b. next k (h k (omega arith))))
  where
    next : (k : ℕ) → get_or set k 0 < get_or set (k + 1) 0 → get_or set k 0 < get_or set (suc k) 0
    next k l = let e : k + 1 ≡ suc k = omega arith in omega (arith, l, ap (λ (m : ℕ). get_or set m 0) e)

pub rising_broken : (set : List ℕ) (i : ℕ) → 0 < i → i < length set → get_or set i 0 ≤ get_or set (i - 1) 0 → false ≡ ascending set
rising_broken set i a b l = go (look (ascending set))
  where
    go : (ascending set ≡ true) ⊎ (ascending set ≡ false) → false ≡ ascending set
    go (inl e) = absurd (omega (arith, ascending-at set e (i - 1) i (omega arith) b))
    go (inr e) = sym e

-- ---- by places

-- numbers that ascend get larger by one at least at each place
pub ascends_by : (set : List ℕ) → Ascends set → (i d : ℕ) → i + d < length set → get_or set i 0 + d ≤ get_or set (i + d) 0
ascends_by set up i zero l = let e : i ≡ i + 0 = omega arith in omega (arith, ap (λ (n : ℕ). get_or set n 0) e)
ascends_by set up i (suc d) l = omega (arith, ascends_by set up i d (omega arith), up (i + d) (i + suc d) (omega arith) l)

-- and never smaller
pub ascends_le : (set : List ℕ) → Ascends set → (i k : ℕ) → i ≤ k → k < length set → get_or set i 0 ≤ get_or set k 0
ascends_le set up i k l b = go (le_or_lt k i)
  where
    go : (k ≤ i) ⊎ (i < k) → get_or set i 0 ≤ get_or set k 0
    go (inl m) = let same : i ≡ k = omega arith in omega (arith, ap (λ (n : ℕ). get_or set n 0) same)
    go (inr m) = le_of_lt (up i k m b)

-- ---- the largest

pub largest : (set : List ℕ) → ascending set ≡ true → (i : ℕ) → i < length set → get_or set i 0 ≤ get_or set (length set - 1) 0
largest set e i l = ascends_le set (ascending-at set e) i (length set - 1) (omega arith) (omega arith)

-- a set reaches a limit where its last number does
pub reaches_last : (set : List ℕ) (limit : ℕ) → ascending set ≡ true → 0 < length set → leb limit (get_or set (length set - 1) 0) ≡ any (leb limit) set
reaches_last set limit e some = go (le_or_lt limit (get_or set (length set - 1) 0))
  where
    go : (limit ≤ get_or set (length set - 1) 0) ⊎ (get_or set (length set - 1) 0 < limit) → leb limit (get_or set (length set - 1) 0) ≡ any (leb limit) set
    go (inl l) =
        let t = le-leb limit (get_or set (length set - 1) 0) l in
        t ∙ sym (any_at (leb limit) set (length set - 1) (omega arith) t)
    go (inr l) =
        lt-leb limit (get_or set (length set - 1) 0) l ∙ sym (any_within limit set (within_of limit set (λ i b. omega (arith, largest set e i b))))

pub reaches_none : (set : List ℕ) (limit : ℕ) → length set ≡ 0 → false ≡ any (leb limit) set
reaches_none set limit e = sym (any_within limit set (within_of limit set (λ i b. absurd (omega arith))))
