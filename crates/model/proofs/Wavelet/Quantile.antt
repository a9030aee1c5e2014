-- The walk down by rank yields the entry of that rank in a part of the list, and how often it occurs there.
use Prim.Native.Nat.{ℕ, zero, suc, ◌+◌, ◌-◌, ◌*◌, ◌^◌, ◌≤◌, ◌<◌}
use mathlib.Core.Path.{◌≡◌, sym, ap, ◌∙◌, fun_ext}
use mathlib.Core.List.{List}
use native.Mathlib.Nat.{zero-add}
use native.Mathlib.Omega.{arith}
use native.Mathlib.Decide.{dec_le}
use lib.ListN.{length}
use lib.Pow.{pow_pos}
use lib.Dec.{ltb, eqb}
use borrow.Author.Tests.{lt-ltb, le-ltb}
use Rattle.bits.specs.Sequences.{tally, occurrences}
use Rattle.bits.proofs.Tests.{eqb_swap}
use Rattle.bits.proofs.Tally.{tally_le_length, tally_same}
use Rattle.model.specs.Lists.{part}
use Rattle.model.specs.Rows.{row}
use Rattle.model.specs.Queries.{quantile}
use Rattle.model.specs.Walk.{zeros_in, pos, key, quantile_from, quantile_walk}
use Rattle.model.proofs.Lists.{length_part, within_part}
use Rattle.model.proofs.Wavelet.Groups.{tally_ltb_suc}
use Rattle.model.proofs.Wavelet.Rows.{key_leaf, RowsOf, tally-root, tally-before-root, root-start, root-place, root-end, row-left, row-right, row-start, row_middle, row-end, count-halves, count-start, count_middle}
use Rattle.model.proofs.Wavelet.Counts.{low_count, node_count}
use Rattle.model.proofs.Wavelet.Sorted.{quantile_is}

module _ {A : Type 0} (leaf : ℕ → ℕ → A) {h n : ℕ} {xs : List ℕ} {rows : ℕ → List ℕ} (R : RowsOf h n xs rows) (a b : ℕ) (ab : a ≤ b) (r : ℕ) where
  -- the entry of rank r is that of rank t among the part's entries in the node q
  abbrev At : ℕ → ℕ → ℕ → Type 0
  At m j q =
      (t : ℕ) → q < 2 ^ j → t + tally (λ v. ltb (key h j v) q) (part a b xs) ≡ r → t < tally (λ v. eqb (key h j v) q) (part a b xs)
      → quantile_from leaf rows m j q (pos h xs j q 0) (pos h xs j q a) (pos h xs j q b) (pos h xs j q (length xs)) t
      ≡ leaf (quantile r (part a b xs)) (occurrences (quantile r (part a b xs)) (part a b xs))

  quantile-from : (m j q : ℕ) → j + m ≡ h → At m j q
  quantile-from zero j q e t lq es lt =
      let p : List ℕ = part a b xs in
      let k : ◌≡◌ {A = ℕ → ℕ} (key h j) (λ v. v) = fun_ext (λ v. ap (λ (n : ℕ). key h n v) (omega arith) ∙ key_leaf h v) in
      let under : tally (λ v. ltb (key h j v) q) p ≡ tally (λ v. ltb v q) p = ap (λ (f : ℕ → ℕ). tally (λ v. ltb (f v) q) p) k in
      let there : pos h xs j q b - pos h xs j q a ≡ tally (λ v. eqb v q) p = sym (node_count h xs a b ab j q) ∙ ap (λ (f : ℕ → ℕ). tally (λ v. eqb (f v) q) p) k in
      let over : r < tally (λ v. ltb v (suc q)) p = omega (arith, tally_ltb_suc (λ v. v) p q, node_count h xs a b ab j q) in
      let d : quantile r p ≡ q = quantile_is p r q (record { under = omega arith; over = over }) (omega (arith, tally_le_length (λ v. ltb v (suc q)) p)) in
      λ i. leaf (sym d i) ((there ∙ tally_same (λ v. eqb v q) (eqb q) (λ v. eqb_swap v q) p ∙ ap (λ (x : ℕ). occurrences x p) (sym d)) i)
  quantile-from (suc m) j q e t lq es lt =
      let lj : j < h = omega arith in
      go lj (sym (low_count h xs a b ab j q lj lq)) (λ c. quantile-from m (suc j) c (omega arith)) (dec_le (suc t) (tally (λ v. eqb (key h (suc j) v) (2 * q)) (part a b xs)))
    where
      p : List ℕ
      p = part a b xs

      go : j < h
          → zeros_in (row h j xs) (pos h xs j q a) (pos h xs j q b) ≡ tally (λ v. eqb (key h (suc j) v) (2 * q)) p
          → ((c : ℕ) → At m (suc j) c)
          → Dec (t < tally (λ v. eqb (key h (suc j) v) (2 * q)) p)
          → quantile_from leaf rows (suc m) j q (pos h xs j q 0) (pos h xs j q a) (pos h xs j q b) (pos h xs j q (length xs)) t
          ≡ leaf (quantile r p) (occurrences (quantile r p) p)
      go lj z ih (yes d) =
          rw (← (R.rowwise j lj), lt-ltb t (zeros_in (row h j xs) (pos h xs j q a) (pos h xs j q b)) (omega arith))
          ((λ i. quantile_from leaf rows m (suc j) (2 * q) (sym (row-start h j xs lj q lq) i) (row-left h j xs lj q lq a i) (row-left h j xs lj q lq b i)
          (row-left h j xs lj q lq (length xs) i) t)
          ∙ ih (2 * q) t (omega arith) (omega (arith, count-start h j lj q p)) d)
      go lj z ih (no d) =
          rw (← (R.rowwise j lj), le-ltb t (zeros_in (row h j xs) (pos h xs j q a) (pos h xs j q b)) (omega arith))
          ((λ i. quantile_from leaf rows m (suc j) (2 * q + 1) (row_middle h j xs lj q lq i) (row-right h j xs lj q lq a i) (row-right h j xs lj q lq b i)
          (sym (row-end h j xs lj q lq) i) (t - z i))
          ∙ ih (2 * q + 1) (t - tally (λ v. eqb (key h (suc j) v) (2 * q)) p) (omega arith) (omega (arith, count_middle h j lj q p)) (omega (arith, count-halves h j lj q p)))

  pub quantile_walk_lem : b ≤ n → r < b - a → quantile_walk leaf rows h n a b r ≡ leaf (quantile r (part a b xs)) (occurrences (quantile r (part a b xs)) (part a b xs))
  quantile_walk_lem l lr =
      let la : a ≤ n = omega arith in
      (λ i. quantile_from leaf rows h 0 0 (root-start R i) (root-place R a la i) (root-place R b l i) (root-end R i) r)
      ∙ quantile-from h 0 0 (zero-add h) r (pow_pos 0) (omega (arith, tally-before-root h (part a b xs)))
      (omega (arith, length_part a b xs (omega (arith, R.size)), tally-root h (part a b xs) (within_part (2 ^ h) a b xs R.entries)))
