-- Sums over the places of terms, and the loop that adds them up.
use Prim.Native.Nat.{ℕ, zero, suc, ◌+◌, ◌*◌, ◌≤◌, ◌<◌}
use native.Mathlib.Numerals.{add-one}
use native.Mathlib.Omega.{arith}
use native.Mathlib.Nat.{mul-le-mul, le_of_lt, zero-add}
use mathlib.Core.Path.{◌≡◌, refl, sym, ap, ap₂, ◌∙◌, subst}
use mathlib.Core.Logic.{◌⊎◌, inl, inr}
use mathlib.Core.List.{List, [], ◌∷◌, ◌++◌, map}
use mathlib.Core.Bool.{true, false, ◌||◌}
use lib.ListN.{length, get_or}
use lib.Dec.{ltb}
use borrow.Author.Tests.{ltb-true, ltb-false, lt-ltb, le-ltb}
use Rattle.bits.specs.Sequences.{below}
use Rattle.bits.specs.Bits.{sum}
use Rattle.bits.proofs.Tests.{look}
use Rattle.bits.proofs.Tally.{up_from_snoc, map-append}
use Rattle.model.specs.Lists.{any}
use Rattle.paths.proofs.TermSpans.{by_places}
use Rattle.weighted.specs.Totals.{total}

-- ---- as sums

sum-append : (xs ys : List ℕ) → sum (xs ++ ys) ≡ sum xs + sum ys
sum-append [] ys = sym (zero-add (sum ys))
sum-append (x ∷ xs) ys = omega (arith, sum-append xs ys)

total-sum : (f : ℕ → ℕ) (n : ℕ) → total f n ≡ sum (map f (below n))
total-sum f zero = refl
total-sum f (suc n) =
    let z : f (0 + n) ≡ f n = ap f (zero-add n) in
    omega (
      arith,
      total-sum f n,
      ap (λ (l : List ℕ). sum (map f l)) (up_from_snoc 0 n),
      ap sum (map-append f (below n) ((0 + n) ∷ [])),
      sum-append (map f (below n)) (f (0 + n) ∷ []),
    )

-- one for each of the terms
pub total-terms : (f c : ℕ → ℕ) (ts : List ℕ) → ((k : ℕ) → k < length ts → c k ≡ f (get_or ts k 0)) → total c (length ts) ≡ sum (map f ts)
total-terms f c ts e = total-sum c (length ts) ∙ ap sum (by_places f c ts e)

-- one of some numbers is not 0
pub any_sum : {A : Type 0} (f : A → ℕ) (xs : List A) → any (λ x. ltb 0 (f x)) xs ≡ ltb 0 (sum (map f xs))
any_sum f [] = refl
any_sum f (x ∷ xs) = go (look (ltb 0 (f x))) (look (ltb 0 (sum (map f xs)))) (any_sum f xs)
  where
    go : (ltb 0 (f x) ≡ true) ⊎ (ltb 0 (f x) ≡ false) → (ltb 0 (sum (map f xs)) ≡ true) ⊎ (ltb 0 (sum (map f xs)) ≡ false)
        → any (λ x. ltb 0 (f x)) xs ≡ ltb 0 (sum (map f xs)) → (ltb 0 (f x) || any (λ x. ltb 0 (f x)) xs) ≡ ltb 0 (f x + sum (map f xs))
    go (inl a) d i = let p = ltb-true 0 (f x) a in rw (a, lt-ltb 0 (f x + sum (map f xs)) (omega arith))
    go (inr a) (inl b) i = let p = ltb-true 0 (sum (map f xs)) b in rw (a, i, b, lt-ltb 0 (f x + sum (map f xs)) (omega arith))
    go (inr a) (inr b) i =
        let p = ltb-false 0 (f x) a in
        let r = ltb-false 0 (sum (map f xs)) b in
        rw (a, i, b, le-ltb 0 (f x + sum (map f xs)) (omega arith))

-- ---- the loop

-- before term k, where no count reaches 2 ^ 32 and no weight is above 48
pub record Adding (g c : ℕ → ℕ) (size score entries k : ℕ) : Type 0 where
  pub inside : k ≤ size
  pub scored : score ≡ total (λ i. g i * c i) k
  pub counted : entries ≡ total c k
  pub score_few : score ≤ k * 206158430208
  pub entries_few : entries ≤ k * 4294967296

pub adding_start : (g c : ℕ → ℕ) (size : ℕ) → Adding g c size 0 0 0
adding_start g c size = record { inside = omega arith; scored = refl; counted = refl; score_few = omega arith; entries_few = omega arith }

module _ {g c : ℕ → ℕ} {size score entries k : ℕ} (o : Adding g c size score entries k) (less : k < size) (few : size ≤ 8) (x y : ℕ)
    (ex : x ≡ g k) (ey : y ≡ c k) (bx : x ≤ 48) (by : y < 4294967296) where
  pub product_few : x * y ≤ 206158430208
  product_few =
      let p : x * y ≤ 48 * 4294967296 = mul-le-mul bx (le_of_lt by) in
      omega arith

  pub adding_next : Adding g c size (score + x * y) (entries + y) (k + 1)
  adding_next =
      let s = o.scored in
      let e = o.counted in
      let a = o.score_few in
      let b = o.entries_few in
      let p = product_few in
      let n : suc k ≡ k + 1 = sym (add-one k) in
      subst (Adding g c size (score + x * y) (entries + y)) n (record {
        inside = less;
        scored = ap₂ (λ (u v : ℕ). u + v) s (ap₂ (λ (u v : ℕ). u * v) ex ey);
        counted = ap₂ (λ (u v : ℕ). u + v) e ey;
        score_few = omega arith;
        entries_few = omega arith;
      })
