-- Each different number of a list once, in the order of first appearance, and no other (document 02, M-101): `distinct` is that, and no other list is.
use Prim.Native.Nat.{ℕ, suc, ◌≤◌, min}
use native.Mathlib.Omega.{arith}
use native.Mathlib.Nat.{le_of_lt}
use mathlib.Core.Path.{◌≡◌, refl, sym, ap, ◌∙◌}
use mathlib.Core.Logic.{◌⊎◌, inl, inr}
use mathlib.Core.List.{List, [], ◌∷◌, ◌++◌}
use mathlib.Core.Bool.{Bool, true, false, not, cond, ◌&&◌, ◌||◌}
use lib.ListN.{length}
use lib.Dec.{ltb, eqb}
use borrow.Author.Tests.{lt-ltb, le-ltb, ltb-true, eq-eqb, ne_eqb, eqb-true, eqb-false}
use Rattle.bits.specs.Sequences.{bit, occurrences, select}
use Rattle.bits.proofs.Tests.{look, eqb_swap}
use Rattle.bits.proofs.Tally.{tally_same, tally_none, tally_le_length}
use Rattle.model.specs.Lists.{keep, any, Sorted, Within}
use Rattle.model.specs.Distinct.{distinct, EachOnce, Different}
use Rattle.model.proofs.Lists.{keep_append, tally-keep, length-keep, within_keep}
use Rattle.model.proofs.Sorting.{every_true, every_keep, sorted-keep, strict_determined}

-- what stands beside x
abbrev pub other : ℕ → ℕ → Bool
other x y = not (eqb x y)

other_ne : (x y : ℕ) → other x y ≡ true → y ≡ x → ⊥
other_ne x y o e = absurd (omega (arith, ap bit (sym o ∙ ap not (eq-eqb x y (sym e)))))

-- ---- each once

-- x itself drops out ..
other_self : (x v : ℕ) → v ≡ x → (y : ℕ) → (other x y && eqb v y) ≡ false
other_self x v e y = ap (λ (w : ℕ). other x y && eqb w y) e ∙ go (eqb x y)
  where
    go : (b : Bool) → (not b && b) ≡ false
    go true = refl
    go false = refl

-- .. and no other number does
other_else : (x v : ℕ) → (v ≡ x → ⊥) → (y : ℕ) → (other x y && eqb v y) ≡ eqb v y
other_else x v n y = go (look (eqb v y))
  where
    none : (b : Bool) → (b && false) ≡ false
    none true = refl
    none false = refl

    go : (eqb v y ≡ true) ⊎ (eqb v y ≡ false) → (other x y && eqb v y) ≡ eqb v y
    go (inl e) = rw (ne_eqb x y (λ d. n (eqb-true v y e ∙ sym d)))
    go (inr e) = rw e (none (other x y))

pub distinct-once : (v : ℕ) (xs : List ℕ) → occurrences v (distinct xs) ≡ min 1 (occurrences v xs)
distinct-once v [] = refl
distinct-once v (x ∷ xs) = go (look (eqb v x)) (distinct-once v xs)
  where
    go : (eqb v x ≡ true) ⊎ (eqb v x ≡ false) → occurrences v (distinct xs) ≡ min 1 (occurrences v xs)
        → occurrences v (distinct (x ∷ xs)) ≡ min 1 (occurrences v (x ∷ xs))
    go (inl e) i =
        omega (
          arith,
          ap bit e,
          tally-keep (eqb v) (other x) (distinct xs),
          tally_none (λ y. other x y && eqb v y) (other_self x v (eqb-true v x e)) (distinct xs),
        )
    go (inr e) i =
        omega (
          arith,
          ap bit e,
          tally-keep (eqb v) (other x) (distinct xs),
          tally_same (λ y. other x y && eqb v y) (eqb v) (other_else x v (eqb-false v x e)) (distinct xs),
        )

-- ---- in the order of first appearance

abbrev earlier : List ℕ → ℕ → ℕ → Bool
earlier xs x y = ltb (select x xs 1) (select y xs 1)

first_self : (x : ℕ) (xs : List ℕ) → select x (x ∷ xs) 1 ≡ 0
first_self x xs = rw (eq-eqb x x refl)

first-other : (x y : ℕ) (xs : List ℕ) → other x y ≡ true → select y (x ∷ xs) 1 ≡ suc (select y xs 1)
first-other x y xs o = rw (ne_eqb y x (other_ne x y o))

distinct-order : (xs : List ℕ) → Sorted (earlier xs) (distinct xs)
distinct-order [] = tt
distinct-order (x ∷ xs) = (
  every_keep (λ y. true) (earlier (x ∷ xs) x) (other x) ahead (distinct xs) (every_true (distinct xs)),
  sorted-keep (earlier xs) (earlier (x ∷ xs)) (other x) after (distinct xs) (distinct-order xs),
)
  where
    ahead : (y : ℕ) → other x y ≡ true → true ≡ true → earlier (x ∷ xs) x y ≡ true
    ahead y o _ = lt-ltb (select x (x ∷ xs) 1) (select y (x ∷ xs) 1) (omega (arith, first_self x xs, first-other x y xs o))

    after : (y z : ℕ) → other x y ≡ true → other x z ≡ true → earlier xs y z ≡ true → earlier (x ∷ xs) y z ≡ true
    after y z o p e =
        lt-ltb (select y (x ∷ xs) 1) (select z (x ∷ xs) 1)
        (omega (arith, first-other x y xs o, first-other x z xs p, ltb-true (select y xs 1) (select z xs 1) e))

-- ---- the theorem

pub distinct_each_once : (xs : List ℕ) → EachOnce xs (distinct xs)
distinct_each_once xs = record { once = λ v. distinct-once v xs; order = distinct-order xs }

pub distinct_different : (xs : List ℕ) → Different (distinct xs)
distinct_different xs v = omega (arith, distinct-once v xs)

earlier_asym : (xs : List ℕ) (x y : ℕ) → earlier xs x y ≡ true → earlier xs y x ≡ false
earlier_asym xs x y e = le-ltb (select y xs 1) (select x xs 1) (le_of_lt (ltb-true (select x xs 1) (select y xs 1) e))

pub each_once_unique : (given kept : List ℕ) → EachOnce given kept → kept ≡ distinct given
each_once_unique given kept e =
    strict_determined (earlier given) (earlier_asym given) kept (distinct given) e.order (distinct-order given) (λ v. e.once v ∙ sym (distinct-once v given))

-- ---- one number more, sizes and limits

pub distinct_snoc : (xs : List ℕ) (x : ℕ) → distinct (xs ++ (x ∷ [])) ≡ distinct xs ++ cond (any (eqb x) xs) [] (x ∷ [])
distinct_snoc [] x = refl
distinct_snoc (y ∷ ys) x =
    ap (λ (l : List ℕ). y ∷ keep (other y) l) (distinct_snoc ys x)
    ∙ ap (λ (l : List ℕ). y ∷ l) (keep_append (other y) (distinct ys) (cond (any (eqb x) ys) [] (x ∷ [])))
    ∙ ap (λ (l : List ℕ). y ∷ (keep (other y) (distinct ys) ++ l)) (go (any (eqb x) ys) ∙ ap (λ (b : Bool). cond (b || any (eqb x) ys) [] (x ∷ [])) (eqb_swap y x))
  where
    new : (s : Bool) → cond (not s) (x ∷ []) [] ≡ cond (s || false) [] (x ∷ [])
    new true = refl
    new false = refl

    old : (s : Bool) → [] ≡ cond (s || true) [] (x ∷ [])
    old true = refl
    old false = refl

    go : (a : Bool) → keep (other y) (cond a [] (x ∷ [])) ≡ cond (eqb y x || a) [] (x ∷ [])
    go true = old (eqb y x)
    go false = new (eqb y x)

pub distinct-length : (xs : List ℕ) → length (distinct xs) ≤ length xs
distinct-length [] = omega arith
distinct-length (x ∷ xs) =
    omega (arith, length-keep (other x) (distinct xs), tally_le_length (other x) (distinct xs), distinct-length xs)

pub distinct_within : (n : ℕ) (xs : List ℕ) → Within n xs → Within n (distinct xs)
distinct_within n [] w = tt
distinct_within n (x ∷ xs) w = (w.0, within_keep (other x) n (distinct xs) (distinct_within n xs w.1))
