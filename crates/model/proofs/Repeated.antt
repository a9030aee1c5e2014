-- A question with repeated terms is answered as the one that gives each different term once (document 02, M-101), whatever the archive and the lent slices.
use Prim.Native.Nat.{ℕ, ◌*◌, ◌≤◌, min}
use native.Mathlib.Omega.{arith}
use mathlib.Core.Path.{◌≡◌, refl, sym, ap, ◌∙◌, fun_ext}
use mathlib.Core.Logic.{◌⊎◌, inl, inr}
use mathlib.Core.List.{List, [], ◌∷◌}
use mathlib.Core.Bool.{Bool, true, false, ◌&&◌, ◌||◌}
use lib.ListN.{length, take}
use lib.Seq.{take-length, length-take-le}
use lib.Dec.{leb, ltb, eqb}
use borrow.Author.Tests.{le-ltb, eqb-true, not-false}
use Rattle.bits.proofs.Tests.{look, eqb_iff}
use Rattle.model.specs.Lists.{keep, any, sort_by}
use Rattle.model.specs.Distinct.{distinct}
use Rattle.model.specs.Outcome.{answered, refuse, and_then}
use Rattle.model.specs.Opening.{opened}
use Rattle.model.specs.Queries.{pairs_into, conjunction, conjunction_result}
use Rattle.model.specs.RarestFirst.{rarer}
use Rattle.model.specs.TopK.{found_into}
use Rattle.model.specs.Weighted.{weighted_found, weighted_result}
use Rattle.model.proofs.Lists.{keep-keep}
use Rattle.model.proofs.Distinct.{other, distinct-length}

-- ---- dropping out twice

and_swap : (a b : Bool) → (a && b) ≡ (b && a)
and_swap true true = refl
and_swap true false = refl
and_swap false true = refl
and_swap false false = refl

keep_swap : (p q : ℕ → Bool) (xs : List ℕ) → keep p (keep q xs) ≡ keep q (keep p xs)
keep_swap p q xs =
    keep-keep p q xs ∙ ap (λ (r : ℕ → Bool). keep r xs) (fun_ext (λ x. and_swap (q x) (p x))) ∙ sym (keep-keep q p xs)

-- what fails a test may go before it
keep_without : (p : ℕ → Bool) (x : ℕ) → p x ≡ false → (xs : List ℕ) → keep p (keep (other x) xs) ≡ keep p xs
keep_without p x e xs = keep-keep p (other x) xs ∙ ap (λ (r : ℕ → Bool). keep r xs) (fun_ext (λ y. go y (look (eqb x y))))
  where
    go : (y : ℕ) → (eqb x y ≡ true) ⊎ (eqb x y ≡ false) → (other x y && p y) ≡ p y
    go y (inl t) = rw t (sym e ∙ ap p (eqb-true x y t))
    go y (inr t) = rw t

distinct-keep : (p : ℕ → Bool) (xs : List ℕ) → distinct (keep p xs) ≡ keep p (distinct xs)
distinct-keep p [] = refl
distinct-keep p (x ∷ xs) = go (look (p x)) (distinct-keep p xs)
  where
    go : (p x ≡ true) ⊎ (p x ≡ false) → distinct (keep p xs) ≡ keep p (distinct xs) → distinct (keep p (x ∷ xs)) ≡ keep p (distinct (x ∷ xs))
    go (inl e) i = rw e (ap (λ (l : List ℕ). x ∷ l) (ap (keep (other x)) i ∙ keep_swap (other x) p (distinct xs)))
    go (inr e) i = rw e (i ∙ sym (keep_without p x e (distinct xs)))

pub distinct-distinct : (xs : List ℕ) → distinct (distinct xs) ≡ distinct xs
distinct-distinct [] = refl
distinct-distinct (x ∷ xs) =
    ap (λ (l : List ℕ). x ∷ l)
    (ap (keep (other x)) (distinct-keep (other x) (distinct xs)) ∙ keep-keep (other x) (other x) (distinct (distinct xs))
    ∙ ap (λ (r : ℕ → Bool). keep r (distinct (distinct xs))) (fun_ext (λ y. same (other x y)))
    ∙ ap (keep (other x)) (distinct-distinct xs))
  where
    same : (b : Bool) → (b && b) ≡ b
    same true = refl
    same false = refl

-- ---- what some of them pass

any-keep : (p q : ℕ → Bool) → ((x : ℕ) → q x ≡ false → p x ≡ false) → (xs : List ℕ) → any p (keep q xs) ≡ any p xs
any-keep p q f [] = refl
any-keep p q f (x ∷ xs) = go (look (q x)) (any-keep p q f xs)
  where
    go : (q x ≡ true) ⊎ (q x ≡ false) → any p (keep q xs) ≡ any p xs → any p (keep q (x ∷ xs)) ≡ any p (x ∷ xs)
    go (inl e) i = rw e (ap (λ (b : Bool). p x || b) i)
    go (inr e) i = rw (e, f x e) i

pub any-distinct : (p : ℕ → Bool) (xs : List ℕ) → any p (distinct xs) ≡ any p xs
any-distinct p [] = refl
any-distinct p (x ∷ xs) = go (look (p x)) (any-distinct p xs)
  where
    dropped : p x ≡ false → (y : ℕ) → other x y ≡ false → p y ≡ false
    dropped e y o = ap p (sym (eqb-true x y (not-false (eqb x y) o))) ∙ e

    go : (p x ≡ true) ⊎ (p x ≡ false) → any p (distinct xs) ≡ any p xs → any p (distinct (x ∷ xs)) ≡ any p (x ∷ xs)
    go (inl e) i = rw e
    go (inr e) i = rw e (any-keep p (other x) (dropped e) (distinct xs) ∙ i)

-- ---- the questions

distinct_some : (xs : List ℕ) → length (distinct xs) ≡ 0 → length xs ≡ 0
distinct_some [] e = refl
distinct_some (x ∷ xs) e = absurd (omega arith)

distinct_none : (xs : List ℕ) → length xs ≡ 0 → length (distinct xs) ≡ 0
distinct_none [] e = refl
distinct_none (x ∷ xs) e = absurd (omega arith)

-- so many of the numbers, at most eight
module _ (bytes numbers : List ℕ) (size : ℕ) (inside : size ≤ length numbers) (few : size ≤ 8) where
  abbrev terms : List ℕ
  terms = take size numbers

  abbrev once : List ℕ
  once = distinct terms

  long : length terms ≡ size
  long = length-take-le size numbers inside

  none : eqb size 0 ≡ eqb (length once) 0
  none = eqb_iff size 0 (length once) 0 (λ e. distinct_none terms (long ∙ e)) (λ e. sym long ∙ distinct_some terms e)

  many : ltb 8 size ≡ ltb 8 (length once)
  many = le-ltb 8 size few ∙ sym (le-ltb 8 (length once) (omega (arith, distinct-length terms, long)))

  seen : (W : ℕ) → any (leb W) terms ≡ any (leb W) (take (length once) once)
  seen W = sym (any-distinct (leb W) terms) ∙ ap (any (leb W)) (sym (take-length once))

  same : distinct terms ≡ distinct (take (length once) once)
  same = sym (distinct-distinct terms) ∙ ap distinct (sym (take-length once))

  pub conjunction-once : (answers : List ℕ) → conjunction_result bytes numbers size answers ≡ conjunction_result bytes once (length once) answers
  conjunction-once answers i =
      pairs_into answers
      (and_then (opened bytes)
      (λ lib.
      refuse 10 (none i || many i)
      (refuse 11 (seen (length lib.lengths) i)
      (refuse 12 (ltb (length answers) (2 * lib.documents)) (answered (conjunction lib (same i)))))))

  pub weighted_once : (k allowance : ℕ) (answers work : List ℕ)
      → weighted_result bytes numbers size k allowance answers work ≡ weighted_result bytes once (length once) k allowance answers work
  weighted_once k allowance answers work i =
      found_into answers work
      (and_then (opened bytes)
      (λ lib.
      refuse 10 (none i || many i)
      (refuse 11 (seen (length lib.lengths) i)
      (refuse 12 (ltb (length answers) (2 * min k lib.documents))
      (refuse 13 (ltb (length work) (4 * lib.documents)) (answered (weighted_found lib (sort_by (rarer lib) (same i)) k allowance)))))))
