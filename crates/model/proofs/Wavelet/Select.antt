-- The walk down by the bits of a value and up by the places of the bits yields the place of one of its entries.
use Prim.Native.Nat.{ℕ, zero, suc, ◌+◌, ◌-◌, ◌*◌, ◌/◌, ◌%◌, ◌^◌, ◌≤◌, ◌<◌}
use mathlib.Core.Path.{◌≡◌, sym, ap, ◌∙◌, subst}
use mathlib.Core.List.{List}
use mathlib.Core.Bool.{Bool, true, false, cond}
use native.Mathlib.Nat.{le_of_lt}
use native.Mathlib.Omega.{arith}
use lib.ListN.{length, get_or, take}
use lib.Dec.{eqb}
use Rattle.bits.specs.Sequences.{tally, occurrences, rank, select, Stands}
use Rattle.bits.proofs.Sequences.{rank_le, select_eq, select_lt, select-stands}
use Rattle.model.specs.Rows.{row}
use Rattle.model.specs.Walk.{pos, key, left, right, rank_from, select_from, select_walk}
use Rattle.model.proofs.Lists.{within_at}
use Rattle.model.proofs.Wavelet.Rows.{RowsOf, root-start, root-place, root-end, row-ones, row-left, row-start, row_middle, row-end, row-bit, row_below, row-length, row-pos_lt, count-halves}
use Rattle.model.proofs.Wavelet.Descend.{FromLow, FromHigh, descend}
use Rattle.model.proofs.Wavelet.Rank.{tally_leaf}
use Rattle.model.proofs.Wavelet.Counts.{ones_mono, ones_step, left_le, right_end, zeros-front}

module _ {h n : ℕ} {xs : List ℕ} {rows : ℕ → List ℕ} (R : RowsOf h n xs rows) (i : ℕ) (l : i < length xs) where
  -- the entry i stands in the node q after those of the node that stand before it
  abbrev At : ℕ → ℕ → ℕ → Type 0
  At m j q =
      select_from rows (get_or xs i 0) m j (pos h xs j q 0) (pos h xs j q (length xs)) (rank (get_or xs i 0) xs i)
      ≡ tally (λ x. eqb (key h j x) q) (take i xs)

  low : FromLow h (get_or xs i 0) At
  low m j q e lq k s t ih =
      let lj : j < h = omega arith in
      let bits : List ℕ = row h j xs in
      let lp : pos h xs j q i < length bits = row-pos_lt h j xs q i lq l k in
      rw (← (R.rowwise j lj), t)
      (ap (λ (n : ℕ). select 0 bits ((pos h xs j q 0 - rank 1 bits (pos h xs j q 0)) + n + 1) - pos h xs j q 0)
      ((λ t. select_from rows (get_or xs i 0) m (suc j) (sym (row-start h j xs lj q lq) t) (row-left h j xs lj q lq (length xs) t) (rank (get_or xs i 0) xs i)) ∙ ih)
      ∙ ap (λ (n : ℕ). n - pos h xs j q 0)
      (select_eq 0 bits (pos h xs j q i) ((pos h xs j q 0 - rank 1 bits (pos h xs j q 0)) + tally (λ x. eqb (key h (suc j) x) (2 * q)) (take i xs) + 1) lp
      (omega (arith, row-bit h j xs lj q lq i l k))
      (omega (
        arith,
        zeros-front bits (pos h xs j q i) (row_below h j xs) (le_of_lt lp),
        zeros-front bits (pos h xs j q 0) (row_below h j xs) (omega arith),
        row-ones h j xs lj q lq i,
        count-halves h j lj q (take i xs),
      )))
      ∙ omega arith)

  high : FromHigh h (get_or xs i 0) At
  high m j q e lq k s t ih =
      let lj : j < h = omega arith in
      let bits : List ℕ = row h j xs in
      rw (← (R.rowwise j lj), t)
      (ap (λ (n : ℕ). select 1 bits (rank 1 bits (pos h xs j q 0) + n + 1) - pos h xs j q 0)
      ((λ t. select_from rows (get_or xs i 0) m (suc j) (row_middle h j xs lj q lq t) (sym (row-end h j xs lj q lq) t) (rank (get_or xs i 0) xs i)) ∙ ih)
      ∙ ap (λ (n : ℕ). n - pos h xs j q 0)
      (select_eq 1 bits (pos h xs j q i) (rank 1 bits (pos h xs j q 0) + tally (λ x. eqb (key h (suc j) x) (2 * q + 1)) (take i xs) + 1)
      (row-pos_lt h j xs q i lq l k) (omega (arith, row-bit h j xs lj q lq i l k)) (ap (λ (n : ℕ). n + 1) (row-ones h j xs lj q lq i)))
      ∙ omega arith)

  -- the entry i, by its value and by how many like it stand before it
  select-at : select_from rows (get_or xs i 0) h 0 0 n (rank (get_or xs i 0) xs i) ≡ i
  select-at =
      (λ t. select_from rows (get_or xs i 0) h 0 (root-start R t) (root-end R t) (rank (get_or xs i 0) xs i))
      ∙ descend h (get_or xs i 0) (within_at (2 ^ h) xs i R.entries l) At (sym (tally_leaf h (get_or xs i 0) (take i xs))) low high
      ∙ omega (arith, root-place R i (omega (arith, R.size)), root-start R)

pub select_walk_lem : {h n : ℕ} {xs : List ℕ} {rows : ℕ → List ℕ} → RowsOf h n xs rows → (v j : ℕ) → 0 < j → j ≤ occurrences v xs → select_walk rows h n v j ≡ select v xs j
select_walk_lem {h} {n} {xs} {rows} R v j l m = go (select-stands v xs j l m)
  where
    go : Stands v xs j (select v xs j) → select_walk rows h n v j ≡ select v xs j
    go p =
        let c : j - 1 ≡ rank v xs (select v xs j) = omega (arith, p.before) in
        ap (λ (k : ℕ). select_from rows v h 0 0 n k) c
        ∙ subst (λ (x : ℕ). select_from rows x h 0 0 n (rank x xs (select v xs j)) ≡ select v xs j) p.there
        (select-at R (select v xs j) p.inside)

-- one of a node's entries stands inside it
module _ {h n : ℕ} {xs : List ℕ} {rows : ℕ → List ℕ} (R : RowsOf h n xs rows) (v k : ℕ) where
  abbrev Inside : ℕ → ℕ → Type 0
  Inside m j = (s e : ℕ) → s ≤ e → e ≤ n → k < rank_from rows v m j s e e → select_from rows v m j s e k < e - s

  pub select_inside : (m j : ℕ) → m + j ≡ h → Inside m j
  select_inside zero j p s e o i l = l
  select_inside (suc m) j p s e o i l = go (eqb (v / 2 ^ m % 2) 1) l (select_inside m (suc j) (omega arith))
    where
      bits : List ℕ
      bits = rows j

      mid : ℕ
      mid = left bits s e

      low : ℕ
      low = select_from rows v m (suc j) s mid k

      high : ℕ
      high = select_from rows v m (suc j) mid e k

      all-zeros : rank 0 bits e + rank 1 bits e ≡ e
      all-zeros =
          let lj : j < h = omega arith in
          rw (← (R.rowwise j lj)) (zeros-front (row h j xs) e (row_below h j xs) (omega (arith, row-length h j xs (le_of_lt lj) R.entries, R.size)))

      go : (b : Bool) → k < cond b (rank_from rows v m (suc j) mid (right bits s e e) e) (rank_from rows v m (suc j) s mid mid) → Inside m (suc j)
          → cond b (select 1 bits (rank 1 bits s + high + 1) - s) (select 0 bits ((s - rank 1 bits s) + low + 1) - s) < e - s
      go true c ih =
          let f : high < e - mid = ih mid e (left_le bits s e o) i (rw (right_end bits s e o) at c) in
          let r : rank 1 bits s + high + 1 ≤ rank 1 bits e = omega (arith, ones_step bits s e o, ones_mono bits s e o) in
          omega (arith, select_lt 1 bits e (rank 1 bits s + high + 1) (omega arith) r, left_le bits s e o)
      go false c ih =
          let f : low < mid - s = ih s mid (omega arith) (omega (arith, left_le bits s e o)) c in
          let r : (s - rank 1 bits s) + low + 1 ≤ rank 0 bits e = omega (arith, all-zeros, ones_step bits s e o, ones_mono bits s e o, rank_le 1 bits s) in
          omega (arith, select_lt 0 bits e ((s - rank 1 bits s) + low + 1) (omega arith) r, left_le bits s e o)
