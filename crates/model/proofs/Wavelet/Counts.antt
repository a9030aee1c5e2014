-- Counts in a part of the list, by the places of a node and the ones of its row; and the bounds of places that code asks for.
use Prim.Native.Nat.{ℕ, zero, suc, ◌+◌, ◌-◌, ◌*◌, ◌^◌, ◌≤◌, ◌<◌}
use mathlib.Core.Path.{◌≡◌, refl}
use mathlib.Core.List.{List, [], ◌∷◌}
use native.Mathlib.Nat.{not-suc-le-zero, le_of_suc-le-suc}
use native.Mathlib.Omega.{arith}
use lib.ListN.{length, drop, length-take}
use lib.Dec.{ltb, eqb}
use Rattle.bits.specs.Sequences.{rank}
use Rattle.bits.proofs.Tally.{tally_le_length, tally-take_le}
use Rattle.model.specs.Lists.{part, Within}
use Rattle.model.specs.Rows.{row}
use Rattle.model.specs.TopK.{node, count_in}
use Rattle.model.specs.Walk.{zeros_in, left, right, pos_of, pos, key}
use Rattle.model.proofs.Lists.{tally-part}
use Rattle.model.proofs.Wavelet.Groups.{tally_ltb_suc}
use Rattle.model.proofs.Wavelet.Rows.{row-ones, count-halves}

-- ---- counts in a part

module _ (h : ℕ) (xs : List ℕ) (a b : ℕ) (ab : a ≤ b) where
  -- the count of the node q of depth j
  pub node_count : (j q : ℕ) → count_in (part a b xs) (node (h - j) q) ≡ pos h xs j q b - pos h xs j q a
  node_count j q = omega (arith, tally-part (λ v. eqb (key h j v) q) a b xs ab)

  -- the counts of its halves: what opening it computes
  pub high-count : (j q : ℕ) → j < h → q < 2 ^ j
      → count_in (part a b xs) (node (h - suc j) (2 * q + 1)) ≡ rank 1 (row h j xs) (pos h xs j q b) - rank 1 (row h j xs) (pos h xs j q a)
  high-count j q lj lq =
      omega (arith, row-ones h j xs lj q lq a, row-ones h j xs lj q lq b, tally-part (λ v. eqb (key h (suc j) v) (2 * q + 1)) a b xs ab)

  pub low_count : (j q : ℕ) → j < h → q < 2 ^ j
      → count_in (part a b xs) (node (h - suc j) (2 * q)) ≡ zeros_in (row h j xs) (pos h xs j q a) (pos h xs j q b)
  low_count j q lj lq =
      omega (arith, high-count j q lj lq, tally-part (λ v. eqb (key h j v) q) a b xs ab, count-halves h j lj q (part a b xs))

-- ---- bounds

pub pos_mono : (k : ℕ → ℕ) (xs : List ℕ) (q a b : ℕ) → a ≤ b → pos_of k xs q a ≤ pos_of k xs q b
pos_mono k xs q a b l = omega (arith, tally-part (λ v. eqb (k v) q) a b xs l)

pub pos_le_length : (k : ℕ → ℕ) (xs : List ℕ) (q a : ℕ) → pos_of k xs q a ≤ length xs
pos_le_length k xs q a =
    omega (arith, tally-take_le (λ v. eqb (k v) q) a xs, tally_ltb_suc k xs q, tally_le_length (λ v. ltb (k v) (suc q)) xs)

module _ (bits : List ℕ) where
  pub ones_mono : (p e : ℕ) → p ≤ e → rank 1 bits p ≤ rank 1 bits e
  ones_mono p e l = omega (arith, tally-part (eqb 1) p e bits l)

  ones-add : (p e : ℕ) → p ≤ e → rank 1 bits e + p ≤ rank 1 bits p + e
  ones-add p e l =
      omega (arith, tally-part (eqb 1) p e bits l, tally_le_length (eqb 1) (part p e bits), length-take (e - p) (drop p bits))

  pub ones_step : (p e : ℕ) → p ≤ e → rank 1 bits e - rank 1 bits p ≤ e - p
  ones_step p e l = omega (arith, ones-add p e l)

  -- the places in both halves keep their order, between the node's ends
  pub left_mono : (s p e : ℕ) → s ≤ p → p ≤ e → left bits s p ≤ left bits s e
  left_mono s p e l m = omega (arith, ones-add s p l, ones-add p e m, ones_mono s p l, ones_mono p e m)

  pub left_le : (s p : ℕ) → s ≤ p → left bits s p ≤ p
  left_le s p l = omega (arith, ones-add s p l, ones_mono s p l)

  pub left_le_right : (s p e : ℕ) → left bits s e ≤ right bits s e p
  left_le_right s p e = omega arith

  pub right_mono : (s p r e : ℕ) → p ≤ r → right bits s e p ≤ right bits s e r
  right_mono s p r e l = omega (arith, ones_mono p r l)

  pub right_le : (s p e : ℕ) → s ≤ p → p ≤ e → right bits s e p ≤ e
  right_le s p e l m = omega (arith, ones-add p e m, ones-add s p l, ones_mono s p l, ones_mono p e m)

  pub right_end : (s e : ℕ) → s ≤ e → right bits s e e ≡ e
  right_end s e l = omega (arith, ones_step s e l)

-- of bits, the zeros are those that are not ones
pub zeros-front : (bits : List ℕ) (i : ℕ) → Within 2 bits → i ≤ length bits → rank 0 bits i + rank 1 bits i ≡ i
zeros-front bits zero b l = refl
zeros-front [] (suc i) b l = absurd (not-suc-le-zero l)
zeros-front (zero ∷ bits) (suc i) b l = omega (arith, zeros-front bits i b.1 (le_of_suc-le-suc l))
zeros-front (suc zero ∷ bits) (suc i) b l = omega (arith, zeros-front bits i b.1 (le_of_suc-le-suc l))
zeros-front (suc (suc x) ∷ bits) (suc i) b l = absurd (omega (arith, b.0))
