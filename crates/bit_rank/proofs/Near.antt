-- Laws of rank from the nearer sample: masks, the four words of half a block, and the sum.
use mathlib.Core.Path.{◌≡◌, refl, ap, ◌∙◌}
use mathlib.Core.List.{List}
use Prim.Native.Nat.{ℕ, zero, suc, ◌+◌, ◌-◌, ◌*◌, ◌/◌, ◌%◌, ◌^◌, ◌≤◌, ◌<◌}
use native.Mathlib.Nat.{le_of_suc-le-suc, not-suc-le-zero, mod-eq_of_lt, zero-mul, one-mul}
use native.Mathlib.Omega.{arith}
use lib.Bits.{bit_and, and_mask, and_zero_r}
use lib.Count.{ones}
use lib.ListN.{get_or}
use Rattle.bit_rank.specs.Near.{kept, near_ones}
use Rattle.bits.specs.Rows.{count_below, word_at}
use Rattle.bits.proofs.Bits.{count_mono, ones_next_word}

not_two : {A : Type 0} (b : ℕ) → suc (suc b) < 2 → A
not_two b h = absurd (not-suc-le-zero (le_of_suc-le-suc (le_of_suc-le-suc h)))

pub mask_kept : (b : ℕ) → b < 2 → (1 - b) * 18446744073709551615 ≡ kept b (2 ^ 64 - 1)
mask_kept zero h = refl
mask_kept (suc zero) h = refl
mask_kept (suc (suc b)) h = not_two b h

pub ones-kept : (b x : ℕ) → x < 2 ^ 64 → ones (bit_and x (kept b (2 ^ 64 - 1))) ≡ kept b (ones x)
unfolding ones
ones-kept zero x h = ap ones (and_mask x 64 ∙ mod-eq_of_lt h)
ones-kept (suc b) x h = ap ones (and_zero_r x)

pub twice_kept : (h a : ℕ) → h < 2 → h * (2 * a) ≡ kept (1 - h) (2 * a)
twice_kept zero a l = zero-mul (2 * a)
twice_kept (suc zero) a l = one-mul (2 * a)
twice_kept (suc (suc h)) a l = not_two h l

pub kept_le : (b x : ℕ) → kept b x ≤ x
kept_le zero x = omega arith
kept_le (suc b) x = omega arith

-- the words that count, from either end of half a block
pub near_words : (row : List ℕ) → ((i : ℕ) → get_or row i 0 < 256) → (k h w : ℕ) → h < 2 → w < 4
    → kept ((4 + 4 * h - w) / 4 % 2) (ones (word_at row k)) + kept ((4 + 4 * h - w + 1) / 4 % 2) (ones (word_at row (k + 8)))
    + kept ((4 + 4 * h - w + 2) / 4 % 2) (ones (word_at row (k + 16))) + kept ((4 + 4 * h - w + 3) / 4 % 2) (ones (word_at row (k + 24)))
    ≡ near_ones h row k w
near_words row bytes k h w l m =
    go h w l m (at 0 k (omega arith)) (at 64 (k + 8) (omega arith)) (at 128 (k + 16) (omega arith)) (at 192 (k + 24) (omega arith)) (at 256 (k + 32) (omega arith))
    (next k (k + 8) (omega arith)) (next (k + 8) (k + 16) (omega arith)) (next (k + 16) (k + 24) (omega arith)) (next (k + 24) (k + 32) (omega arith))
  where
    c : ℕ → ℕ
    c = count_below 1 row

    at : (d b : ℕ) → 8 * k + d ≡ 8 * b → c (8 * k + d) ≡ c (8 * b)
    at d b e = ap c e

    next : (a b : ℕ) → a + 8 ≡ b → c (8 * b) ≡ c (8 * a) + ones (word_at row a)
    next a b e = rw e at (ones_next_word row bytes a)

    go : (h w : ℕ) → h < 2 → w < 4 → c (8 * k + 0) ≡ c (8 * k) → c (8 * k + 64) ≡ c (8 * (k + 8)) → c (8 * k + 128) ≡ c (8 * (k + 16))
        → c (8 * k + 192) ≡ c (8 * (k + 24)) → c (8 * k + 256) ≡ c (8 * (k + 32))
        → c (8 * (k + 8)) ≡ c (8 * k) + ones (word_at row k) → c (8 * (k + 16)) ≡ c (8 * (k + 8)) + ones (word_at row (k + 8))
        → c (8 * (k + 24)) ≡ c (8 * (k + 16)) + ones (word_at row (k + 16)) → c (8 * (k + 32)) ≡ c (8 * (k + 24)) + ones (word_at row (k + 24))
        → kept ((4 + 4 * h - w) / 4 % 2) (ones (word_at row k)) + kept ((4 + 4 * h - w + 1) / 4 % 2) (ones (word_at row (k + 8)))
        + kept ((4 + 4 * h - w + 2) / 4 % 2) (ones (word_at row (k + 16))) + kept ((4 + 4 * h - w + 3) / 4 % 2) (ones (word_at row (k + 24)))
        ≡ near_ones h row k w
    go zero zero l m a0 a1 a2 a3 a4 s0 s1 s2 s3 = omega arith
    go zero (suc zero) l m a0 a1 a2 a3 a4 s0 s1 s2 s3 = omega arith
    go zero (suc (suc zero)) l m a0 a1 a2 a3 a4 s0 s1 s2 s3 = omega arith
    go zero (suc (suc (suc zero))) l m a0 a1 a2 a3 a4 s0 s1 s2 s3 = omega arith
    go zero (suc (suc (suc (suc w)))) l m a0 a1 a2 a3 a4 s0 s1 s2 s3 = absurd (omega arith)
    go (suc zero) zero l m a0 a1 a2 a3 a4 s0 s1 s2 s3 = omega arith
    go (suc zero) (suc zero) l m a0 a1 a2 a3 a4 s0 s1 s2 s3 = omega arith
    go (suc zero) (suc (suc zero)) l m a0 a1 a2 a3 a4 s0 s1 s2 s3 = omega arith
    go (suc zero) (suc (suc (suc zero))) l m a0 a1 a2 a3 a4 s0 s1 s2 s3 = omega arith
    go (suc zero) (suc (suc (suc (suc w)))) l m a0 a1 a2 a3 a4 s0 s1 s2 s3 = absurd (omega arith)
    go (suc (suc h)) w l m a0 a1 a2 a3 a4 s0 s1 s2 s3 = not_two h l

-- a count from the front is added to the sample before, one from behind taken off the sample after
pub near_sum : (row : List ℕ) (t h w i tail : ℕ) → h < 2 → w < 4
    → count_below 1 row i ≡ count_below 1 row (8 * (64 * t + 32 * h + 8 * w)) + tail
    → (kept (1 - h) (2 * near_ones h row (64 * t + 32 * h) w) ≤ count_below 1 row (512 * (t + h)) + tail + near_ones h row (64 * t + 32 * h) w)
    × (count_below 1 row (512 * (t + h)) + tail + near_ones h row (64 * t + 32 * h) w - kept (1 - h) (2 * near_ones h row (64 * t + 32 * h) w) ≡ count_below 1 row i)
near_sum row t zero w i tail l m e =
    let c = count_below 1 row in
    let p : 8 * (64 * t + 32 * 0 + 8 * w) ≡ 8 * (64 * t + 32 * 0) + 64 * w = omega arith in
    let q : 512 * (t + 0) ≡ 8 * (64 * t + 32 * 0) = omega arith in
    omega (arith, ap c p, ap c q, count_mono 1 row (8 * (64 * t + 32 * 0)) (8 * (64 * t + 32 * 0) + 64 * w) (omega arith))
near_sum row t (suc zero) w i tail l m e =
    let c = count_below 1 row in
    let p : 8 * (64 * t + 32 * 1 + 8 * w) ≡ 8 * (64 * t + 32 * 1) + 64 * w = omega arith in
    let q : 512 * (t + 1) ≡ 8 * (64 * t + 32 * 1) + 256 = omega arith in
    omega (arith, ap c p, ap c q, count_mono 1 row (8 * (64 * t + 32 * 1) + 64 * w) (8 * (64 * t + 32 * 1) + 256) (omega arith))
near_sum row t (suc (suc h)) w i tail l m e = not_two h l
