-- Laws of strictly ascending lists (M-106): by their places, each number once, what is inserted and sorted.
use Prim.Native.Nat.{ℕ, zero, suc, ◌+◌, ◌≤◌, ◌<◌}
use native.Mathlib.Omega.{arith}
use native.Mathlib.Nat.{le_trans, le_of_lt, le_of_suc-le-suc, not-suc-le-zero}
use mathlib.Core.Path.{◌≡◌, refl, ap}
use mathlib.Core.Logic.{◌⊎◌, inl, inr}
use mathlib.Core.List.{List, [], ◌∷◌}
use mathlib.Core.Bool.{Bool, true, false, cond, ◌&&◌}
use lib.ListN.{length, get_or}
use lib.Dec.{leb, ltb, eqb}
use borrow.Author.Tests.{lt-ltb, ltb-true, leb-true, leb-false, ne_eqb, eqb-true}
use Rattle.bits.specs.Sequences.{bit, tally, all, up_from, below, occurrences}
use Rattle.bits.proofs.Tests.{look, and_both, both_and, bit_eq}
use Rattle.bits.proofs.Tally.{all-at, all_imply, all-up_from}
use Rattle.model.specs.Lists.{insert_number, sorted}
use Rattle.model.specs.RankSet.{ascending}
use Rattle.model.proofs.Wavelet.Sorted.{tally-sorted}

-- what all pass that p excludes, none passes
all_none : (p q : ℕ → Bool) → ((x : ℕ) → q x ≡ true → p x ≡ false) → (xs : List ℕ) → all q xs ≡ true → tally p xs ≡ 0
all_none p q h [] e = refl
all_none p q h (x ∷ xs) e =
    let t = and_both (q x) (all q xs) e in
    omega (arith, ap bit (h x t.0), all_none p q h xs t.1)

-- a number that is below all others of a list is none of them
pub below_none : (d : ℕ) (ds : List ℕ) → all (ltb d) ds ≡ true → occurrences d ds ≡ 0
below_none d ds e = all_none (eqb d) (ltb d) (λ x t. ne_eqb d x (λ s. absurd (omega (arith, ltb-true d x t)))) ds e

-- ---- by places

-- each is below all that follow it ..
pub ascending-at : (xs : List ℕ) → ascending xs ≡ true → (i k : ℕ) → i < k → k < length xs → get_or xs i 0 < get_or xs k 0
ascending-at [] e i k a b = absurd (not-suc-le-zero b)
ascending-at (x ∷ xs) e i zero a b = absurd (not-suc-le-zero a)
ascending-at (x ∷ xs) e zero (suc k) a b =
    ltb-true x (get_or xs k 0) (all-at (ltb x) xs k 0 (and_both (all (ltb x) xs) (ascending xs) e).0 (le_of_suc-le-suc b))
ascending-at (x ∷ xs) e (suc i) (suc k) a b = ascending-at xs (and_both (all (ltb x) xs) (ascending xs) e).1 i k (le_of_suc-le-suc a) (le_of_suc-le-suc b)

-- .. and below the next is enough
pub ascending-of : (xs : List ℕ) → ((i : ℕ) → suc i < length xs → get_or xs i 0 < get_or xs (suc i) 0) → ascending xs ≡ true
ascending-of [] h = refl
ascending-of (x ∷ []) h = refl
ascending-of (x ∷ y ∷ ys) h = go (ascending-of (y ∷ ys) (λ i l. h (suc i) (omega arith)))
  where
    less : x < y
    less = h 0 (omega arith)

    go : ascending (y ∷ ys) ≡ true → ascending (x ∷ y ∷ ys) ≡ true
    go e =
        both_and (all (ltb x) (y ∷ ys)) (ascending (y ∷ ys))
        (both_and (ltb x y) (all (ltb x) ys) (lt-ltb x y less)
        (all_imply (ltb y) (ltb x) (λ z l. lt-ltb x z (le_trans less (le_of_lt (ltb-true y z l)))) ys (and_both (all (ltb y) ys) (ascending ys) e).0)) e

-- ---- each once

-- in an ascending list each stands once
pub ascending-once : (set : List ℕ) (d : ℕ) → ascending set ≡ true → occurrences d set ≤ 1
ascending-once [] d e = omega arith
ascending-once (x ∷ xs) d e = go (look (eqb d x)) (and_both (all (ltb x) xs) (ascending xs) e) (ascending-once xs d)
  where
    go : (eqb d x ≡ true) ⊎ (eqb d x ≡ false) → (all (ltb x) xs ≡ true) × (ascending xs ≡ true) → (ascending xs ≡ true → occurrences d xs ≤ 1)
        → bit (eqb d x) + occurrences d xs ≤ 1
    go (inl s) t ih = rw s (omega (arith, below_none x xs t.0, ap (λ (v : ℕ). occurrences v xs) (eqb-true d x s)))
    go (inr s) t ih = rw s (omega (arith, ih t.1))

-- ---- inserted and sorted

-- where all pass and one more is put among them
all_insert : (q : ℕ → Bool) (v : ℕ) (ys : List ℕ) → q v ≡ true → all q ys ≡ true → all q (insert_number v ys) ≡ true
all_insert q v [] e f = both_and (q v) true e refl
all_insert q v (y ∷ ys) e f = go (leb v y) (and_both (q y) (all q ys) f) (all_insert q v ys e)
  where
    go : (b : Bool) → (q y ≡ true) × (all q ys ≡ true) → (all q ys ≡ true → all q (insert_number v ys) ≡ true)
        → all q (cond b (v ∷ y ∷ ys) (y ∷ insert_number v ys)) ≡ true
    go true t ih = both_and (q v) (all q (y ∷ ys)) e f
    go false t ih = both_and (q y) (all q (insert_number v ys)) t.0 (ih t.1)

ascending-insert : (v : ℕ) (ys : List ℕ) → occurrences v ys ≡ 0 → ascending ys ≡ true → ascending (insert_number v ys) ≡ true
ascending-insert v [] n e = refl
ascending-insert v (y ∷ ys) n e = go (look (leb v y)) (and_both (all (ltb y) ys) (ascending ys) e) (ascending-insert v ys)
  where
    apart : v ≡ y → ⊥
    apart s = absurd (omega (arith, bit_eq v y s))

    go : (leb v y ≡ true) ⊎ (leb v y ≡ false) → (all (ltb y) ys ≡ true) × (ascending ys ≡ true)
        → (occurrences v ys ≡ 0 → ascending ys ≡ true → ascending (insert_number v ys) ≡ true)
        → ascending (cond (leb v y) (v ∷ y ∷ ys) (y ∷ insert_number v ys)) ≡ true
    go (inl b) t ih =
        let less : v < y = omega (arith, leb-true v y b, apart) in
        rw b
        (both_and (ltb v y && all (ltb v) ys) (ascending (y ∷ ys))
        (both_and (ltb v y) (all (ltb v) ys) (lt-ltb v y less) (all_imply (ltb y) (ltb v) (λ x l. lt-ltb v x (le_trans less (le_of_lt (ltb-true y x l)))) ys t.0)) e)
    go (inr b) t ih =
        rw b (both_and (all (ltb y) (insert_number v ys)) (ascending (insert_number v ys)) (all_insert (ltb y) v ys (lt-ltb y v (leb-false v y b)) t.0) (ih (omega arith) t.1))

-- numbers each of which stands once, in order
pub ascending-sorted : (xs : List ℕ) → ((d : ℕ) → occurrences d xs ≤ 1) → ascending (sorted xs) ≡ true
ascending-sorted [] h = refl
ascending-sorted (x ∷ xs) h =
    ascending-insert x (sorted xs) (omega (arith, tally-sorted (eqb x) xs, h x, bit_eq x x refl)) (ascending-sorted xs (λ d. omega (arith, h d)))

ascending-up_from : (s n : ℕ) → ascending (up_from s n) ≡ true
ascending-up_from s zero = refl
ascending-up_from s (suc n) =
    both_and (all (ltb s) (up_from (suc s) n)) (ascending (up_from (suc s) n)) (all-up_from (ltb s) (suc s) n (λ i a b. lt-ltb s i a)) (ascending-up_from (suc s) n)

-- the documents of a library are a set
pub ascending-below : (n : ℕ) → ascending (below n) ≡ true
ascending-below n = ascending-up_from 0 n
