-- The step law for any key w: its node is w / 2 and its bit w % 2, and the ones and zeros of a node's bits lead to its halves.
use Prim.Native.Nat.{ℕ, ◌+◌, ◌*◌, ◌/◌, ◌%◌, ◌<◌}
use mathlib.Core.Path.{◌≡◌, sym, ap, ◌∙◌}
use mathlib.Core.List.{List, map}
use mathlib.Core.Bool.{Bool, ◌&&◌}
use native.Mathlib.Numerals.{add-one}
use native.Mathlib.Omega.{arith}
use native.Mathlib.Decide.{ℕ_discrete}
use lib.ListN.{length, get_or, take}
use lib.Seq.{take-length}
use lib.Dec.{ltb, eqb}
use borrow.Author.Tests.{eq-eqb, ne_eqb}
use Rattle.bits.specs.Sequences.{bit, tally, occurrences, rank}
use Rattle.bits.proofs.Tests.{eqb_iff, ltb_iff}
use Rattle.bits.proofs.Tally.{tally-sum, tally_same, tally-append, tally-map}
use Rattle.model.specs.Lists.{keep}
use Rattle.model.specs.Walk.{zeros_in, left, right, pos_of}
use Rattle.model.proofs.Lists.{map-append, map-take, get_or-map, tally-keep}
use Rattle.model.proofs.Wavelet.Groups.{groups_from, tally_ltb_suc, groups_front, groups_at, pos_lt, pos_end}

-- ---- a number's half and last bit

half_one : (w q : ℕ) → (eqb (w / 2) q && eqb 1 (w % 2)) ≡ eqb w (2 * q + 1)
half_one w q = go (ℕ_discrete (w / 2) q)
  where
    go : Dec (w / 2 ≡ q) → (eqb (w / 2) q && eqb 1 (w % 2)) ≡ eqb w (2 * q + 1)
    go (yes e) = rw (eq-eqb (w / 2) q e) (eqb_iff 1 (w % 2) w (2 * q + 1) (omega arith) (omega arith))
    go (no h) = rw (ne_eqb (w / 2) q h) (sym (ne_eqb w (2 * q + 1) (λ e. h (omega arith))))

half_both : (w q : ℕ) → bit (eqb (w / 2) q) ≡ bit (eqb w (2 * q)) + bit (eqb w (2 * q + 1))
half_both w q = go (ℕ_discrete w (2 * q)) (ℕ_discrete w (2 * q + 1))
  where
    go : Dec (w ≡ 2 * q) → Dec (w ≡ 2 * q + 1) → bit (eqb (w / 2) q) ≡ bit (eqb w (2 * q)) + bit (eqb w (2 * q + 1))
    go (yes e) (yes f) = absurd (omega arith)
    go (yes e) (no f) = rw (eq-eqb w (2 * q) e, ne_eqb w (2 * q + 1) f, eq-eqb (w / 2) q (omega arith))
    go (no e) (yes f) = rw (ne_eqb w (2 * q) e, eq-eqb w (2 * q + 1) f, eq-eqb (w / 2) q (omega arith))
    go (no e) (no f) = rw (ne_eqb w (2 * q) e, ne_eqb w (2 * q + 1) f, ne_eqb (w / 2) q (omega arith))

-- ---- a node's halves, counted in any list

module _ (w : ℕ → ℕ) (q : ℕ) (ys : List ℕ) where
  pub tally-halves : tally (λ v. eqb (w v / 2) q) ys ≡ tally (λ v. eqb (w v) (2 * q)) ys + tally (λ v. eqb (w v) (2 * q + 1)) ys
  tally-halves = tally-sum (λ v. eqb (w v / 2) q) (λ v. eqb (w v) (2 * q)) (λ v. eqb (w v) (2 * q + 1)) (λ v. half_both (w v) q) ys

  pub tally-start : tally (λ v. ltb (w v) (2 * q)) ys ≡ tally (λ v. ltb (w v / 2) q) ys
  tally-start = tally_same (λ v. ltb (w v) (2 * q)) (λ v. ltb (w v / 2) q) (λ v. ltb_iff (w v) (2 * q) (w v / 2) q (omega arith) (omega arith)) ys

  pub tally_middle : tally (λ v. ltb (w v) (2 * q + 1)) ys ≡ tally (λ v. ltb (w v / 2) q) ys + tally (λ v. eqb (w v) (2 * q)) ys
  tally_middle = rw add-one (omega (arith, tally_ltb_suc w ys (2 * q), tally-start))

-- ---- the step law

-- the bits of the entries arranged by their nodes
abbrev pub row_of : (ℕ → ℕ) → List ℕ → ℕ → List ℕ
row_of w xs m = map (λ v. w v % 2) (groups_from (λ v. w v / 2) xs 0 m)

module _ (w : ℕ → ℕ) (xs : List ℕ) (m q : ℕ) (h : q < m) where
  ones-front : (a : ℕ) → rank 1 (row_of w xs m) (pos_of (λ v. w v / 2) xs q a)
      ≡ occurrences 1 (map (λ v. w v % 2) (groups_from (λ v. w v / 2) xs 0 q)) + tally (λ v. eqb (w v) (2 * q + 1)) (take a xs)
  ones-front a =
      let g : List ℕ = groups_from (λ v. w v / 2) xs 0 q in
      let f : List ℕ = keep (λ v. eqb (w v / 2) q) (take a xs) in
      ap (occurrences 1) (map-take (λ v. w v % 2) (pos_of (λ v. w v / 2) xs q a) (groups_from (λ v. w v / 2) xs 0 m))
      ∙ ap (λ (l : List ℕ). occurrences 1 (map (λ v. w v % 2) l)) (groups_front (λ v. w v / 2) xs q m a h)
      ∙ ap (occurrences 1) (map-append (λ v. w v % 2) g f)
      ∙ tally-append (eqb 1) (map (λ v. w v % 2) g) (map (λ v. w v % 2) f)
      ∙ ap (λ (n : ℕ). occurrences 1 (map (λ v. w v % 2) g) + n)
      (tally-map (eqb 1) (λ v. w v % 2) f
      ∙ tally-keep (λ v. eqb 1 (w v % 2)) (λ v. eqb (w v / 2) q) (take a xs)
      ∙ tally_same (λ v. eqb (w v / 2) q && eqb 1 (w v % 2)) (λ v. eqb (w v) (2 * q + 1)) (λ v. half_one (w v) q) (take a xs))

  pub step-ones : (a : ℕ) → rank 1 (row_of w xs m) (pos_of (λ v. w v / 2) xs q a)
      ≡ rank 1 (row_of w xs m) (pos_of (λ v. w v / 2) xs q 0) + tally (λ v. eqb (w v) (2 * q + 1)) (take a xs)
  step-ones a = omega (arith, ones-front a, ones-front 0)

  pub step-zeros : (a : ℕ) → zeros_in (row_of w xs m) (pos_of (λ v. w v / 2) xs q 0) (pos_of (λ v. w v / 2) xs q a) ≡ tally (λ v. eqb (w v) (2 * q)) (take a xs)
  step-zeros a = omega (arith, step-ones a, tally-halves w q (take a xs))

  pub step_left : (a : ℕ) → left (row_of w xs m) (pos_of (λ v. w v / 2) xs q 0) (pos_of (λ v. w v / 2) xs q a) ≡ pos_of w xs (2 * q) a
  step_left a = omega (arith, step-zeros a, tally-start w q xs)

  pub step_right : (a : ℕ) → right (row_of w xs m) (pos_of (λ v. w v / 2) xs q 0) (pos_of (λ v. w v / 2) xs q (length xs)) (pos_of (λ v. w v / 2) xs q a) ≡ pos_of w xs (2 * q + 1) a
  step_right a =
      omega (arith, step-zeros (length xs), step-ones a, tally_middle w q xs, ap (tally (λ v. eqb (w v) (2 * q))) (take-length xs))

  pub step_start : pos_of w xs (2 * q) 0 ≡ pos_of (λ v. w v / 2) xs q 0
  step_start = omega (arith, tally-start w q xs)

  pub step_middle : left (row_of w xs m) (pos_of (λ v. w v / 2) xs q 0) (pos_of (λ v. w v / 2) xs q (length xs)) ≡ pos_of w xs (2 * q + 1) 0
  step_middle = step_left (length xs) ∙ rw add-one (pos_end w xs (2 * q))

  pub step_end : pos_of w xs (2 * q + 1) (length xs) ≡ pos_of (λ v. w v / 2) xs q (length xs)
  step_end = omega (arith, tally_middle w q xs, tally-halves w q xs, tally-all (λ v. eqb (w v) (2 * q + 1)), tally-all (λ v. eqb (w v / 2) q))
    where
      tally-all : (p : ℕ → Bool) → tally p (take (length xs) xs) ≡ tally p xs
      tally-all p = ap (tally p) (take-length xs)

  pub step-bit : (i : ℕ) → i < length xs → w (get_or xs i 0) / 2 ≡ q → get_or (row_of w xs m) (pos_of (λ v. w v / 2) xs q i) 0 ≡ w (get_or xs i 0) % 2
  step-bit i l e =
      get_or-map (λ v. w v % 2) (groups_from (λ v. w v / 2) xs 0 m) (pos_of (λ v. w v / 2) xs q i) 0 0 (pos_lt (λ v. w v / 2) xs q m i h l e)
      ∙ ap (λ (v : ℕ). w v % 2) (groups_at (λ v. w v / 2) xs q m i h l e)
