-- The walk down by the bits of a value counts it before a place.
use Prim.Native.Nat.{ℕ, suc, ◌^◌, ◌≤◌, ◌<◌}
use mathlib.Core.Path.{◌≡◌, sym, ◌∙◌}
use mathlib.Core.List.{List}
use native.Mathlib.Omega.{arith}
use lib.ListN.{length, take}
use lib.Dec.{eqb}
use Rattle.bits.specs.Sequences.{tally, occurrences, rank}
use Rattle.bits.proofs.Tests.{eqb_iff}
use Rattle.bits.proofs.Tally.{tally_same}
use Rattle.model.specs.Walk.{pos, key, rank_from, rank_walk}
use Rattle.model.proofs.Wavelet.Rows.{key_leaf, RowsOf, root-start, root-place, root-end, row-left, row-right, row-start, row_middle, row-end}
use Rattle.model.proofs.Wavelet.Descend.{FromLow, FromHigh, descend}

-- at the leaves the key is the value
pub tally_leaf : (h v : ℕ) (ys : List ℕ) → tally (λ x. eqb (key h h x) v) ys ≡ occurrences v ys
tally_leaf h v ys =
    tally_same (λ x. eqb (key h h x) v) (eqb v) (λ x. eqb_iff (key h h x) v v x (λ p. sym p ∙ key_leaf h x) (λ p. key_leaf h x ∙ sym p)) ys

module _ {h n : ℕ} {xs : List ℕ} {rows : ℕ → List ℕ} (R : RowsOf h n xs rows) (v i : ℕ) where
  abbrev At : ℕ → ℕ → ℕ → Type 0
  At m j q = rank_from rows v m j (pos h xs j q 0) (pos h xs j q i) (pos h xs j q (length xs)) ≡ rank v xs i

  low : FromLow h v At
  low m j q e lq k s t ih =
      let lj : j < h = omega arith in
      rw (← (R.rowwise j lj), t)
      ((λ t. rank_from rows v m (suc j) (sym (row-start h j xs lj q lq) t) (row-left h j xs lj q lq i t) (row-left h j xs lj q lq (length xs) t)) ∙ ih)

  high : FromHigh h v At
  high m j q e lq k s t ih =
      let lj : j < h = omega arith in
      rw (← (R.rowwise j lj), t)
      ((λ t. rank_from rows v m (suc j) (row_middle h j xs lj q lq t) (row-right h j xs lj q lq i t) (sym (row-end h j xs lj q lq) t)) ∙ ih)

  pub rank_walk_lem : v < 2 ^ h → i ≤ n → rank_walk rows h n v i ≡ rank v xs i
  rank_walk_lem b l =
      (λ t. rank_from rows v h 0 (root-start R t) (root-place R i l t) (root-end R t))
      ∙ descend h v b At (omega (arith, tally_leaf h v (take i xs))) low high
