-- Halving by the steps of document 004 (M-103): a mapped end by the ones of the row, the way down by the steps, and the theorem that they give the counts of the halves.
use Prim.Native.Nat.{ℕ, zero, suc, ◌+◌, ◌-◌, ◌*◌, ◌/◌, ◌%◌, ◌^◌, ◌≤◌, ◌<◌, zero-le}
use native.Mathlib.Nat.{le_refl, le_trans}
use native.Mathlib.Omega.{arith}
use mathlib.Core.Path.{◌≡◌, refl, sym, ap, ap₂, ◌∙◌}
use mathlib.Core.Logic.{◌⊎◌, inl, inr}
use mathlib.Core.List.{List}
use mathlib.Core.Bool.{true, false, cond}
use lib.ListN.{length, drop}
use lib.Seq.{take-take}
use lib.Dec.{eqb}
use borrow.Author.Tests.{eqb-true, eqb-false}
use Rattle.bits.specs.Sequences.{rank, occurrences}
use Rattle.bits.proofs.Tests.{look}
use Rattle.model.specs.Lists.{part, Within}
use Rattle.model.specs.Rows.{row}
use Rattle.model.specs.TopK.{node, count_in}
use Rattle.model.specs.Walk.{zeros_in, left, key, pos}
use Rattle.model.specs.Halving.{Stretch, steps, root, descend, size, GiveCounts}
use Rattle.model.proofs.Lists.{tally-part, length_part, within_part}
use Rattle.model.proofs.Wavelet.Rows.{RowsOf, root-place, root-start, root-end, row-length, row_below, row-left, row-right, row-start, row_middle, row-end}
use Rattle.model.proofs.Wavelet.Counts.{zeros-front, node_count, pos_mono, pos_le_length}

-- ---- a place p of the node from s up to e, mapped

module _ (bits : List ℕ) (w : Within 2 bits) (s p e : ℕ) (sp : s ≤ p) (pe : p ≤ e) (el : e ≤ length bits) where
  -- its ones and zeros are those of the row between the node's start and the place
  pub mapped_ones : rank 1 (part s e bits) (p - s) ≡ rank 1 bits p - rank 1 bits s
  mapped_ones = ap (occurrences 1) (take-take (p - s) (e - s) (drop s bits) (omega arith)) ∙ omega (arith, tally-part (eqb 1) s p bits sp)

  pub mapped_zeros : rank 0 (part s e bits) (p - s) ≡ zeros_in bits s p
  mapped_zeros =
      omega (arith, mapped_ones, zeros-front (part s e bits) (p - s) (within_part 2 s e bits w) (omega (arith, length_part s e bits el)))

-- ---- the nodes of a list of entries, with the range of the entries a up to but without b

-- the node q of depth j
abbrev pub stretch : ℕ → List ℕ → ℕ → ℕ → ℕ → ℕ → Stretch
stretch h xs a b j q = record { start = pos h xs j q 0; lower = pos h xs j q a; upper = pos h xs j q b; end = pos h xs j q (length xs) }

module _ (h : ℕ) (xs : List ℕ) (w : Within (2 ^ h) xs) (j q : ℕ) (l : j < h) (m : q < 2 ^ j) where
  abbrev start : ℕ
  start = pos h xs j q 0

  abbrev end : ℕ
  end = pos h xs j q (length xs)

  abbrev bits : List ℕ
  bits = part start end (row h j xs)

  inside : end ≤ length (row h j xs)
  inside = rw (row-length h j xs (omega arith) w) (pos_le_length (key h j) xs q (length xs))

  -- place p of the list, mapped
  module _ (p : ℕ) (pn : p ≤ length xs) where
    from : start ≤ pos h xs j q p
    from = pos_mono (key h j) xs q 0 p zero-le

    to : pos h xs j q p ≤ end
    to = pos_mono (key h j) xs q p (length xs) pn

    zeros-to : rank 0 bits (pos h xs j q p - start) ≡ zeros_in (row h j xs) start (pos h xs j q p)
    zeros-to = mapped_zeros (row h j xs) (row_below h j xs) start (pos h xs j q p) end from to inside

    ones-to : rank 1 bits (pos h xs j q p - start) ≡ rank 1 (row h j xs) (pos h xs j q p) - rank 1 (row h j xs) start
    ones-to = mapped_ones (row h j xs) (row_below h j xs) start (pos h xs j q p) end from to inside

    zero-place : start + rank 0 bits (pos h xs j q p - start) ≡ pos h xs (suc j) (2 * q) p
    zero-place = ap (λ (z : ℕ). start + z) zeros-to ∙ row-left h j xs l q m p

  all-zeros : start + rank 0 bits (end - start) ≡ left (row h j xs) start end
  all-zeros = ap (λ (z : ℕ). start + z) (zeros-to (length xs) (le_refl (length xs)))

  one_place : (p : ℕ) → p ≤ length xs → start + rank 0 bits (end - start) + rank 1 bits (pos h xs j q p - start) ≡ pos h xs (suc j) (2 * q + 1) p
  one_place p pn = ap₂ (λ (m o : ℕ). m + o) all-zeros (ones-to p pn) ∙ row-right h j xs l q m p

  -- the halves that the steps give are its children
  module _ (a b : ℕ) (an : a ≤ length xs) (bn : b ≤ length xs) where
    pub steps-zero : (steps (row h j xs) (stretch h xs a b j q)).zero_half ≡ stretch h xs a b (suc j) (2 * q)
    steps-zero = λ i. record {
      start = sym (row-start h j xs l q m) i;
      lower = zero-place a an i;
      upper = zero-place b bn i;
      end = zero-place (length xs) (le_refl (length xs)) i;
    }

    pub steps-one : (steps (row h j xs) (stretch h xs a b j q)).one_half ≡ stretch h xs a b (suc j) (2 * q + 1)
    steps-one = λ i. record {
      start = (all-zeros ∙ row_middle h j xs l q m) i;
      lower = one_place a an i;
      upper = one_place b bn i;
      end = sym (row-end h j xs l q m) i;
    }

-- ---- the way down, and the theorem

module _ {h n : ℕ} {xs : List ℕ} {rows : ℕ → List ℕ} (R : RowsOf h n xs rows) (a b : ℕ) (ab : a ≤ b) (bn : b ≤ n) where
  upper_inside : b ≤ length xs
  upper_inside = omega (arith, R.size)

  lower_inside : a ≤ length xs
  lower_inside = le_trans ab upper_inside

  -- the halves of a node that was come to
  module _ (j q : ℕ) (l : j < h) (m : q < 2 ^ j) (v : Stretch) (e : v ≡ stretch h xs a b j q) where
    zero_of : (steps (rows j) v).zero_half ≡ stretch h xs a b (suc j) (2 * q)
    zero_of = (λ i. (steps (sym (R.rowwise j l) i) (e i)).zero_half) ∙ steps-zero h xs R.entries j q l m a b lower_inside upper_inside

    one_of : (steps (rows j) v).one_half ≡ stretch h xs a b (suc j) (2 * q + 1)
    one_of = (λ i. (steps (sym (R.rowwise j l) i) (e i)).one_half) ∙ steps-one h xs R.entries j q l m a b lower_inside upper_inside

    -- the half that leads to its child k
    child_of : (k : ℕ) → k / 2 ≡ q → cond (eqb (k % 2) 1) (steps (rows j) v).one_half (steps (rows j) v).zero_half ≡ stretch h xs a b (suc j) k
    child_of k f = go (look (eqb (k % 2) 1))
      where
        go : (eqb (k % 2) 1 ≡ true) ⊎ (eqb (k % 2) 1 ≡ false)
            → cond (eqb (k % 2) 1) (steps (rows j) v).one_half (steps (rows j) v).zero_half ≡ stretch h xs a b (suc j) k
        go (inl o) =
            let odd : 2 * q + 1 ≡ k = omega (arith, eqb-true (k % 2) 1 o) in
            rw o (one_of ∙ ap (stretch h xs a b (suc j)) odd)
        go (inr o) =
            let even : 2 * q ≡ k = let no = eqb-false (k % 2) 1 o in omega arith in
            rw o (zero_of ∙ ap (stretch h xs a b (suc j)) even)

  -- every node is come to
  pub descend_is : (j q : ℕ) → j ≤ h → q < 2 ^ j → descend rows (root n a b) j q ≡ stretch h xs a b j q
  descend_is zero q l m =
      let first : 0 ≡ q = omega arith in
      (λ i. record { start = root-start R i; lower = root-place R a (le_trans ab bn) i; upper = root-place R b bn i; end = root-end R i })
      ∙ ap (stretch h xs a b 0) first
  descend_is (suc j) q l m =
      let half : q / 2 < 2 ^ j = omega arith in
      child_of j (q / 2) (omega arith) half (descend rows (root n a b) j (q / 2)) (descend_is j (q / 2) (omega arith) half) q refl

  -- M-103: at every node of two or more numbers the steps give the counts of its two halves
  pub give_counts : (l q j : ℕ) → j + suc l ≡ h → q < 2 ^ j → GiveCounts (part a b xs) l q (steps (rows j) (descend rows (root n a b) j q))
  give_counts l q j d m = record {
    zero_half_size = ap size (zero_of j q (omega arith) m (descend rows (root n a b) j q) (descend_is j q (omega arith) m)) ∙ counted (2 * q);
    one_half_size = ap size (one_of j q (omega arith) m (descend rows (root n a b) j q) (descend_is j q (omega arith) m)) ∙ counted (2 * q + 1);
  }
    where
      below : h - suc j ≡ l
      below = omega arith

      counted : (k : ℕ) → size (stretch h xs a b (suc j) k) ≡ count_in (part a b xs) (node l k)
      counted k = sym (node_count h xs a b ab (suc j) k) ∙ ap (λ (x : ℕ). count_in (part a b xs) (node x k)) below
