-- The rows of a list: their length, their bits, and the step law at the keys of the rows.
use Prim.Native.Nat.{ℕ, suc, ◌+◌, ◌-◌, ◌*◌, ◌/◌, ◌%◌, ◌^◌, ◌≤◌, ◌<◌, zero-le}
use mathlib.Core.Path.{◌≡◌, refl, sym, ap, ap₂, ◌∙◌, subst, subst₂, fun_ext}
use mathlib.Core.List.{List, [], ◌∷◌, map}
use native.Mathlib.Nat.{le_refl, sub_self, sub-zero, div-one, mod-lt, zero-lt-suc, div-eq_of_lt, div-div-eq-div-mul, pow-suc}
use native.Mathlib.Omega.{arith}
use lib.ListN.{length, get_or, take, length-map}
use lib.Seq.{length-take-le}
use lib.Pow.{shr_lt}
use lib.Dec.{ltb, eqb}
use borrow.Author.Tests.{lt-ltb, le-ltb, eq-eqb}
use Rattle.bits.specs.Sequences.{tally, rank}
use Rattle.bits.proofs.Tally.{tally_none}
use Rattle.model.specs.Lists.{Within}
use Rattle.model.specs.Rows.{row, arranged}
use Rattle.model.specs.Walk.{left, right, pos_of, pos, key}
use Rattle.model.proofs.Lists.{tally_within, within_take}
use Rattle.model.proofs.Wavelet.Groups.{groups_from, pos_lt, length_groups}
use Rattle.model.proofs.Wavelet.Step.{row_of, step-ones, step_left, step_right, step_start, step_middle, step_end, step-bit, tally-halves, tally-start, tally_middle}

-- ---- keys

pub key_half : (h j v : ℕ) → j < h → key h j v ≡ key h (suc j) v / 2
key_half h j v l =
    let e : h - j ≡ suc (h - suc j) = omega arith in
    ap (λ (n : ℕ). v / 2 ^ n) e ∙ ap (λ (n : ℕ). v / n) (pow-suc 2 (h - suc j)) ∙ sym (div-div-eq-div-mul v (2 ^ (h - suc j)) 2)

pub key_lt : (h j v : ℕ) → j ≤ h → v < 2 ^ h → key h j v < 2 ^ j
key_lt h j v l b =
    let e : h ≡ j + (h - j) = omega arith in
    shr_lt j (h - j) (subst (λ (n : ℕ). v < 2 ^ n) e b)

pub key-root : (h v : ℕ) → v < 2 ^ h → key h 0 v ≡ 0
key-root h v b = rw sub-zero (div-eq_of_lt b)

pub key_leaf : (h v : ℕ) → key h h v ≡ v
key_leaf h v = rw sub_self (div-one v)

-- ---- length and bits

row_is : (h j : ℕ) (xs : List ℕ) → j < h → row h j xs ≡ row_of (key h (suc j)) xs (2 ^ j)
row_is h j xs l =
    let e : h - 1 - j ≡ h - suc j = omega arith in
    ap₂ (λ (n : ℕ) (k : ℕ → ℕ). map (λ v. v / 2 ^ n % 2) (groups_from k xs 0 (2 ^ j))) e (fun_ext (λ v. key_half h j v l))

pub row-length : (h j : ℕ) (xs : List ℕ) → j ≤ h → Within (2 ^ h) xs → length (row h j xs) ≡ length xs
row-length h j xs l b =
    length-map (arranged h j xs) (λ v. v / 2 ^ (h - 1 - j) % 2) ∙ length_groups (key h j) xs (2 ^ j)
    ∙ tally_within (λ v. ltb (key h j v) (2 ^ j)) (2 ^ h) (λ v m. lt-ltb (key h j v) (2 ^ j) (key_lt h j v l m)) xs b

within_bits : (f : ℕ → ℕ) (l : List ℕ) → Within 2 (map (λ v. f v % 2) l)
within_bits f [] = tt
within_bits f (x ∷ l) = (mod-lt (f x) {m = 2} (zero-lt-suc 1), within_bits f l)

pub row_below : (h j : ℕ) (xs : List ℕ) → Within 2 (row h j xs)
row_below h j xs = within_bits (λ v. v / 2 ^ (h - 1 - j)) (arranged h j xs)

-- n entries, all below 2 ^ h, and their rows; past row h - 1 there may stand anything
pub record RowsOf (h n : ℕ) (xs : List ℕ) (rows : ℕ → List ℕ) : Type 0 where
  pub entries : Within (2 ^ h) xs
  pub size : length xs ≡ n
  pub rowwise : (j : ℕ) → j < h → row h j xs ≡ rows j

pub rows_of : (h : ℕ) (xs : List ℕ) → Within (2 ^ h) xs → RowsOf h (length xs) xs (λ j. row h j xs)
rows_of h xs w = record { entries = w; size = refl; rowwise = λ j l. refl }

-- ---- places

pub row-pos_lt : (h j : ℕ) (xs : List ℕ) (q i : ℕ) → q < 2 ^ j → i < length xs → key h j (get_or xs i 0) ≡ q → pos h xs j q i < length (row h j xs)
row-pos_lt h j xs q i m l e = rw length-map (pos_lt (key h j) xs q (2 ^ j) i m l e)

-- all entries are in the root, which starts at 0
pub tally-root : (h : ℕ) (xs : List ℕ) → Within (2 ^ h) xs → tally (λ v. eqb (key h 0 v) 0) xs ≡ length xs
tally-root h xs b = tally_within (λ v. eqb (key h 0 v) 0) (2 ^ h) (λ v m. eq-eqb (key h 0 v) 0 (key-root h v m)) xs b

pub tally-before-root : (h : ℕ) (xs : List ℕ) → tally (λ v. ltb (key h 0 v) 0) xs ≡ 0
tally-before-root h xs = tally_none (λ v. ltb (key h 0 v) 0) (λ v. le-ltb (key h 0 v) 0 zero-le) xs

pub pos-root : (h : ℕ) (xs : List ℕ) (a : ℕ) → Within (2 ^ h) xs → a ≤ length xs → pos h xs 0 0 a ≡ a
pos-root h xs a b l =
    omega (arith, tally-before-root h xs, tally-root h (take a xs) (within_take (2 ^ h) a xs b), length-take-le a xs l)

-- where a walk begins
module _ {h n : ℕ} {xs : List ℕ} {rows : ℕ → List ℕ} (R : RowsOf h n xs rows) where
  pub root-place : (a : ℕ) → a ≤ n → a ≡ pos h xs 0 0 a
  root-place a l = sym (pos-root h xs a R.entries (omega (arith, R.size)))

  pub root-start : 0 ≡ pos h xs 0 0 0
  root-start = root-place 0 zero-le

  pub root-end : n ≡ pos h xs 0 0 (length xs)
  root-end = sym R.size ∙ sym (pos-root h xs (length xs) R.entries (le_refl (length xs)))

-- ---- the step law

module _ (h j : ℕ) (xs : List ℕ) (l : j < h) (q : ℕ) (m : q < 2 ^ j) where
  -- a law of row_of, as a law of row
  at_row : (P : List ℕ → (ℕ → ℕ) → Type 0) → P (row_of (key h (suc j)) xs (2 ^ j)) (λ v. key h (suc j) v / 2) → P (row h j xs) (key h j)
  at_row P t = subst₂ P (sym (row_is h j xs l)) (sym (fun_ext (λ v. key_half h j v l))) t

  pub row-ones : (a : ℕ) → rank 1 (row h j xs) (pos h xs j q a) ≡ rank 1 (row h j xs) (pos h xs j q 0) + tally (λ v. eqb (key h (suc j) v) (2 * q + 1)) (take a xs)
  row-ones a = at_row (λ r k. rank 1 r (pos_of k xs q a) ≡ rank 1 r (pos_of k xs q 0) + tally (λ v. eqb (key h (suc j) v) (2 * q + 1)) (take a xs))
      (step-ones (key h (suc j)) xs (2 ^ j) q m a)

  pub row-left : (a : ℕ) → left (row h j xs) (pos h xs j q 0) (pos h xs j q a) ≡ pos h xs (suc j) (2 * q) a
  row-left a = at_row (λ r k. left r (pos_of k xs q 0) (pos_of k xs q a) ≡ pos h xs (suc j) (2 * q) a) (step_left (key h (suc j)) xs (2 ^ j) q m a)

  pub row-right : (a : ℕ) → right (row h j xs) (pos h xs j q 0) (pos h xs j q (length xs)) (pos h xs j q a) ≡ pos h xs (suc j) (2 * q + 1) a
  row-right a = at_row (λ r k. right r (pos_of k xs q 0) (pos_of k xs q (length xs)) (pos_of k xs q a) ≡ pos h xs (suc j) (2 * q + 1) a)
      (step_right (key h (suc j)) xs (2 ^ j) q m a)

  pub row-start : pos h xs (suc j) (2 * q) 0 ≡ pos h xs j q 0
  row-start = at_row (λ r k. pos h xs (suc j) (2 * q) 0 ≡ pos_of k xs q 0) (step_start (key h (suc j)) xs (2 ^ j) q m)

  pub row_middle : left (row h j xs) (pos h xs j q 0) (pos h xs j q (length xs)) ≡ pos h xs (suc j) (2 * q + 1) 0
  row_middle = at_row (λ r k. left r (pos_of k xs q 0) (pos_of k xs q (length xs)) ≡ pos h xs (suc j) (2 * q + 1) 0) (step_middle (key h (suc j)) xs (2 ^ j) q m)

  pub row-end : pos h xs (suc j) (2 * q + 1) (length xs) ≡ pos h xs j q (length xs)
  row-end = at_row (λ r k. pos h xs (suc j) (2 * q + 1) (length xs) ≡ pos_of k xs q (length xs)) (step_end (key h (suc j)) xs (2 ^ j) q m)

  pub row-bit : (i : ℕ) → i < length xs → key h j (get_or xs i 0) ≡ q → get_or (row h j xs) (pos h xs j q i) 0 ≡ key h (suc j) (get_or xs i 0) % 2
  row-bit i b e = at_row (λ r k. get_or r (pos_of k xs q i) 0 ≡ key h (suc j) (get_or xs i 0) % 2)
      (step-bit (key h (suc j)) xs (2 ^ j) q m i b (sym (key_half h j (get_or xs i 0) l) ∙ e))

-- ---- the halves of a node, counted in any list

module _ (h j : ℕ) (l : j < h) (q : ℕ) (ys : List ℕ) where
  keys : ◌≡◌ {A = ℕ → ℕ} (key h j) (λ v. key h (suc j) v / 2)
  keys = fun_ext (λ v. key_half h j v l)

  pub count-halves : tally (λ v. eqb (key h j v) q) ys ≡ tally (λ v. eqb (key h (suc j) v) (2 * q)) ys + tally (λ v. eqb (key h (suc j) v) (2 * q + 1)) ys
  count-halves = ap (λ (k : ℕ → ℕ). tally (λ v. eqb (k v) q) ys) keys ∙ tally-halves (key h (suc j)) q ys

  pub count-start : tally (λ v. ltb (key h (suc j) v) (2 * q)) ys ≡ tally (λ v. ltb (key h j v) q) ys
  count-start = tally-start (key h (suc j)) q ys ∙ ap (λ (k : ℕ → ℕ). tally (λ v. ltb (k v) q) ys) (sym keys)

  pub count_middle : tally (λ v. ltb (key h (suc j) v) (2 * q + 1)) ys ≡ tally (λ v. ltb (key h j v) q) ys + tally (λ v. eqb (key h (suc j) v) (2 * q)) ys
  count_middle =
      tally_middle (key h (suc j)) q ys ∙ ap (λ (k : ℕ → ℕ). tally (λ v. ltb (k v) q) ys + tally (λ v. eqb (key h (suc j) v) (2 * q)) ys) (sym keys)
