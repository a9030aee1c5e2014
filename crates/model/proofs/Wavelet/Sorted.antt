-- Sorting keeps every count, and the entry of rank r is told by two counts: those below it, and those up to it.
use Prim.Native.Nat.{ℕ, zero, suc, ◌+◌, ◌≤◌, ◌<◌}
use mathlib.Core.Path.{◌≡◌, refl, sym, ap, ◌∙◌}
use mathlib.Core.List.{List, [], ◌∷◌}
use mathlib.Core.Bool.{Bool, true, false, cond}
use native.Mathlib.Nat.{not-suc-le-zero, le_of_suc-le-suc, le_trans, le_of_lt, le_refl}
use native.Mathlib.Omega.{arith}
use native.Mathlib.Decide.{dec_le}
use lib.ListN.{length, get_or}
use lib.Dec.{leb, ltb, eqb}
use borrow.Author.Tests.{le-leb, lt-leb, lt-ltb, le-ltb, ltb-true}
use Rattle.bits.specs.Sequences.{bit, tally, occurrences}
use Rattle.bits.proofs.Tests.{bit_le, bit_ltb_suc, eqb_swap, Cmp, less, same, more, cmp}
use Rattle.bits.proofs.Tally.{tally-sum, tally_le, tally_true}
use Rattle.model.specs.Lists.{insert_number, sorted}
use Rattle.model.specs.Queries.{quantile}
use Rattle.model.proofs.Sorting.{sort_same}

-- ---- counts

pub tally-sorted : (p : ℕ → Bool) (xs : List ℕ) → tally p (sorted xs) ≡ tally p xs
tally-sorted p xs = sort_same leb xs p

pub length-sorted : (xs : List ℕ) → length (sorted xs) ≡ length xs
length-sorted xs = sym (tally_true (sorted xs)) ∙ tally-sorted (λ x. true) xs ∙ tally_true xs

pub tally-below_mono : (a b : ℕ) (xs : List ℕ) → a ≤ b → tally (λ v. ltb v a) xs ≤ tally (λ v. ltb v b) xs
tally-below_mono a b xs l = tally_le (λ v. ltb v a) (λ v. ltb v b) (λ v t. lt-ltb v b (le_trans (ltb-true v a t) l)) xs

pub tally-below-suc : (x : ℕ) (xs : List ℕ) → tally (λ v. ltb v (suc x)) xs ≡ tally (λ v. ltb v x) xs + occurrences x xs
tally-below-suc x xs =
    tally-sum (λ v. ltb v (suc x)) (λ v. ltb v x) (eqb x) (λ v. omega (arith, bit_ltb_suc v x, ap bit (eqb_swap v x))) xs

-- ---- ascending order

abbrev Above : ℕ → List ℕ → Type 0
Above n [] = Unit {0}
Above n (x ∷ xs) = (n ≤ x) × Above n xs

abbrev Ascending : List ℕ → Type 0
Ascending [] = Unit {0}
Ascending (x ∷ xs) = Above x xs × Ascending xs

above_le : {m n : ℕ} → m ≤ n → (xs : List ℕ) → Above n xs → Above m xs
above_le h [] a = tt
above_le h (x ∷ xs) a = (le_trans h a.0, above_le h xs a.1)

above_insert : (n v : ℕ) (ys : List ℕ) → n ≤ v → Above n ys → Above n (insert_number v ys)
above_insert n v [] h a = (h, tt)
above_insert n v (y ∷ ys) h a =
    elim (leb v y) as (λ b. Above n (cond b (v ∷ y ∷ ys) (y ∷ insert_number v ys))) [ true ↦ (h, a) | false ↦ (a.0, above_insert n v ys h a.1) ]

ascending-insert : (v : ℕ) (ys : List ℕ) → Ascending ys → Ascending (insert_number v ys)
ascending-insert v [] a = (tt, tt)
ascending-insert v (y ∷ ys) a = go (dec_le v y) (ascending-insert v ys a.1)
  where
    go : Dec (v ≤ y) → Ascending (insert_number v ys) → Ascending (insert_number v (y ∷ ys))
    go (yes h) ih = rw (le-leb v y h) ((h, above_le h ys a.0), a)
    go (no h) ih = let l : y < v = omega arith in rw (lt-leb v y l) (above_insert y v ys (le_of_lt l) a.0, ih)

ascending-sorted : (xs : List ℕ) → Ascending (sorted xs)
ascending-sorted [] = tt
ascending-sorted (x ∷ xs) = ascending-insert x (sorted xs) (ascending-sorted xs)

above_at : (n : ℕ) (ys : List ℕ) (r : ℕ) → Above n ys → r < length ys → n ≤ get_or ys r 0
above_at n [] r a l = absurd (not-suc-le-zero l)
above_at n (y ∷ ys) zero a l = a.0
above_at n (y ∷ ys) (suc r) a l = above_at n ys r a.1 (le_of_suc-le-suc l)

above_none : (n : ℕ) (ys : List ℕ) → Above n ys → tally (λ v. ltb v n) ys ≡ 0
above_none n [] a = refl
above_none n (y ∷ ys) a = omega (arith, ap bit (le-ltb y n a.0), above_none n ys a.1)

-- ---- ranks

-- x has the rank r: at most r entries are below x, and more than r are up to x
pub record Ranked (xs : List ℕ) (r x : ℕ) : Type 0 where
  pub under : tally (λ v. ltb v x) xs ≤ r
  pub over : r < tally (λ v. ltb v (suc x)) xs

ascending_ranked : (ys : List ℕ) (r : ℕ) → Ascending ys → r < length ys → Ranked ys r (get_or ys r 0)
ascending_ranked [] r a l = absurd (not-suc-le-zero l)
ascending_ranked (y ∷ ys) zero a l = record {
  under = omega (arith, above_none y (y ∷ ys) (le_refl y, a.0));
  over = omega (arith, ap bit (lt-ltb y (suc y) (le_refl (suc y))));
}
ascending_ranked (y ∷ ys) (suc r) a l =
    let m = le_of_suc-le-suc l in
    let i = ascending_ranked ys r a.1 m in
    let x : ℕ = get_or ys r 0 in
    record {
      under = omega (arith, bit_le (ltb y x), i.under);
      over = omega (arith, ap bit (lt-ltb y (suc x) (omega (arith, above_at y ys r a.0 m))), i.over);
    }

pub quantile_ranked : (xs : List ℕ) (r : ℕ) → r < length xs → Ranked xs r (quantile r xs)
quantile_ranked xs r l =
    let i = ascending_ranked (sorted xs) r (ascending-sorted xs) (rw length-sorted l) in
    record { under = rw tally-sorted at i.under; over = rw tally-sorted at i.over }

-- no two numbers have one rank
ranked_unique : (xs : List ℕ) (r x y : ℕ) → Ranked xs r x → Ranked xs r y → x ≡ y
ranked_unique xs r x y p q = go (cmp x y)
  where
    go : Cmp x y → x ≡ y
    go (same e) = e
    go (less l) = absurd (omega (arith, p.over, q.under, tally-below_mono (suc x) y xs l))
    go (more l) = absurd (omega (arith, q.over, p.under, tally-below_mono (suc y) x xs l))

pub quantile_is : (xs : List ℕ) (r x : ℕ) → Ranked xs r x → r < length xs → quantile r xs ≡ x
quantile_is xs r x p l = ranked_unique xs r (quantile r xs) x (quantile_ranked xs r l) p
