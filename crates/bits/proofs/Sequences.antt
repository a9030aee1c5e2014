-- Laws of rank and select over any list.
use mathlib.Core.Path.{◌≡◌, refl, sym, ap, subst, ◌∙◌}
use mathlib.Core.Bool.{Bool, true, false, cond, ◌&&◌}
use mathlib.Core.List.{List, [], ◌∷◌}
use Prim.Native.Nat.{ℕ, zero, suc, ◌+◌, ◌-◌, ◌≤◌, ◌<◌, zero-le, suc-le-suc}
use native.Mathlib.Nat.{le_of_suc-le-suc, not-suc-le-zero}
use native.Mathlib.Omega.{arith}
use native.Mathlib.Decide.{dec_le}
use lib.Dec.{eqb}
use lib.ListN.{length, get_or}
use lib.Seq.{take_all}
use borrow.Author.Tests.{eq-eqb, ne_eqb, eqb-true, eqb-false}
use Rattle.bits.specs.Sequences.{bit, occurrences, rank, select, Stands, IsPlace}
use Rattle.bits.proofs.Tests.{bit_le}
use Rattle.bits.proofs.Tally.{tally-take_le}

-- ---- rank

pub rank_le : (v : ℕ) (xs : List ℕ) (i : ℕ) → rank v xs i ≤ i
rank_le v xs zero = omega arith
rank_le v [] (suc i) = omega arith
rank_le v (x ∷ xs) (suc i) = omega (arith, bit_le (eqb v x), rank_le v xs i)

pub rank_mono : (v : ℕ) (xs : List ℕ) (i k : ℕ) → i ≤ k → rank v xs i ≤ rank v xs k
rank_mono v xs zero k h = omega arith
rank_mono v xs (suc i) zero h = absurd (not-suc-le-zero h)
rank_mono v [] (suc i) (suc k) h = omega arith
rank_mono v (x ∷ xs) (suc i) (suc k) h = omega (arith, rank_mono v xs i k (le_of_suc-le-suc h))

-- the places between two add at most as many as they are
pub rank_between : (v : ℕ) (xs : List ℕ) (i k : ℕ) → i ≤ k → rank v xs k ≤ rank v xs i + (k - i)
rank_between v xs zero k h = omega (arith, rank_le v xs k)
rank_between v xs (suc i) zero h = absurd (not-suc-le-zero h)
rank_between v [] (suc i) (suc k) h = omega arith
rank_between v (x ∷ xs) (suc i) (suc k) h = omega (arith, rank_between v xs i k (le_of_suc-le-suc h))

pub rank-all : (v : ℕ) (xs : List ℕ) (i : ℕ) → length xs ≤ i → rank v xs i ≡ occurrences v xs
rank-all v xs i h = ap (occurrences v) (take_all i xs h)

-- ---- select

later : (t : Bool) (j a rest : ℕ) → (t ≡ true → j ≡ 1 → ⊥) → cond (t && eqb j 1) a rest ≡ rest
later true j a rest n = rw (ne_eqb j 1 (n refl))
later false j a rest n = refl

pub select_le : (v : ℕ) (xs : List ℕ) (j : ℕ) → select v xs j ≤ length xs
select_le v [] j = omega arith
select_le v (x ∷ xs) j = go (eqb v x && eqb j 1) (select_le v xs (j - bit (eqb v x)))
  where
    go : (t : Bool) → select v xs (j - bit (eqb v x)) ≤ length xs → cond t 0 (suc (select v xs (j - bit (eqb v x)))) ≤ suc (length xs)
    go true h = omega arith
    go false h = omega arith

-- the place of an element is found by its number
pub select_eq : (v : ℕ) (xs : List ℕ) (p j : ℕ) → p < length xs → get_or xs p 0 ≡ v → rank v xs p + 1 ≡ j → select v xs j ≡ p
select_eq v [] p j h e r = absurd (not-suc-le-zero h)
select_eq v (x ∷ xs) zero j h e r = rw (eq-eqb v x (sym e), eq-eqb j 1 (sym r))
select_eq v (x ∷ xs) (suc p) j h e r =
    later (eqb v x) j 0 (suc (select v xs (j - bit (eqb v x)))) (λ t o. omega (arith, ap bit t))
    ∙ ap suc (select_eq v xs p (j - bit (eqb v x)) (le_of_suc-le-suc h) e (omega arith))

-- not before s, where fewer than j stand before s
pub select_ge : (v : ℕ) (xs : List ℕ) (s j : ℕ) → s ≤ length xs → rank v xs s < j → s ≤ select v xs j
select_ge v xs zero j l m = zero-le
select_ge v [] (suc s) j l m = absurd (not-suc-le-zero l)
select_ge v (x ∷ xs) (suc s) j l m =
    subst (λ (n : ℕ). suc s ≤ n) (sym (later (eqb v x) j 0 (suc (select v xs (j - bit (eqb v x)))) (λ t o. omega (arith, ap bit t))))
    (suc-le-suc (select_ge v xs s (j - bit (eqb v x)) (le_of_suc-le-suc l) (omega arith)))

-- the j-th of those that are there stands where select says
pub select-stands : (v : ℕ) (xs : List ℕ) (j : ℕ) → 0 < j → j ≤ occurrences v xs → Stands v xs j (select v xs j)
select-stands v [] j l m = absurd (omega arith)
select-stands v (x ∷ xs) j l m = go (eqb v x) refl (eqb j 1) refl (select-stands v xs (j - bit (eqb v x)))
  where
    k : ℕ
    k = j - bit (eqb v x)

    go : (t : Bool) → eqb v x ≡ t → (o : Bool) → eqb j 1 ≡ o → (0 < k → k ≤ occurrences v xs → Stands v xs k (select v xs k))
        → Stands v (x ∷ xs) j (cond (t && o) 0 (suc (select v xs k)))
    go true e true f ih = record { inside = suc-le-suc zero-le; there = sym (eqb-true v x e); before = sym (eqb-true j 1 f) }
    go true e false f ih =
        let n = eqb-false j 1 f in
        let p = ih (omega (arith, ap bit e)) (omega (arith, ap bit e)) in
        record { inside = suc-le-suc p.inside; there = p.there; before = omega (arith, ap bit e, p.before) }
    go false e o f ih =
        let p = ih (omega (arith, ap bit e)) (omega (arith, ap bit e)) in
        record { inside = suc-le-suc p.inside; there = p.there; before = omega (arith, ap bit e, p.before) }

-- before e, where j stand before e
pub select_lt : (v : ℕ) (xs : List ℕ) (e j : ℕ) → 0 < j → j ≤ rank v xs e → select v xs j < e
select_lt v xs e j l m = go (dec_le e (select v xs j))
  where
    go : Dec (e ≤ select v xs j) → select v xs j < e
    go (no n) = omega arith
    go (yes n) =
        let s = select-stands v xs j l (omega (arith, tally-take_le (eqb v) e xs)) in
        absurd (omega (arith, rank_mono v xs e (select v xs j) n, s.before))

-- where fewer are there, the answer is one past the end
pub select_none : (v : ℕ) (xs : List ℕ) (j : ℕ) → occurrences v xs < j → select v xs j ≡ length xs
select_none v [] j h = refl
select_none v (x ∷ xs) j h =
    later (eqb v x) j 0 (suc (select v xs (j - bit (eqb v x)))) (λ t o. omega (arith, ap bit t))
    ∙ ap suc (select_none v xs (j - bit (eqb v x)) (omega arith))

-- there is no element number 0
pub select-zero : (v : ℕ) (xs : List ℕ) → select v xs 0 ≡ length xs
select-zero v [] = refl
select-zero v (x ∷ xs) =
    let e : 0 - bit (eqb v x) ≡ 0 = omega arith in
    later (eqb v x) 0 0 (suc (select v xs (0 - bit (eqb v x)))) (λ t o. omega arith) ∙ ap suc (rw e (select-zero v xs))

-- ---- what place it is

pub select_is_place : (v : ℕ) (xs : List ℕ) (j : ℕ) → 0 < j → IsPlace v xs j (select v xs j)
select_is_place v xs j l = record {
  present = select-stands v xs j l;
  missing = select_none v xs j;
  only_missing = λ e. go e (dec_le j (occurrences v xs));
}
  where
    go : select v xs j ≡ length xs → Dec (j ≤ occurrences v xs) → occurrences v xs < j
    go e (yes m) = absurd (omega (arith, e, (select-stands v xs j l m).inside))
    go e (no m) = omega arith

-- no other number is
pub place_unique : (v : ℕ) (xs : List ℕ) (j p : ℕ) → IsPlace v xs j p → p ≡ select v xs j
place_unique v xs j p is = go (dec_le j (occurrences v xs))
  where
    go : Dec (j ≤ occurrences v xs) → p ≡ select v xs j
    go (yes m) = let s = is.present m in sym (select_eq v xs p j s.inside s.there s.before)
    go (no m) = is.missing (omega arith) ∙ sym (select_none v xs j (omega arith))
