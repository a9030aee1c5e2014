-- The last row: how many of a node's two documents a range has, by its ones.
use mathlib.Core.Path.{◌≡◌, refl, sym, ap, ◌∙◌}
use mathlib.Core.Bool.{Bool, true, false}
use mathlib.Core.Logic.{◌⊎◌, inl, inr}
use mathlib.Core.List.{List}
use Prim.Native.Nat.{ℕ, zero, suc, ◌+◌, ◌-◌, ◌≤◌, ◌<◌}
use native.Mathlib.Omega.{arith}
use lib.Dec.{ltb}
use mir.Val.{bool_byte}
use borrow.Author.Tests.{ltb-true, ltb-false, lt-ltb, le-ltb}
use Rattle.bits.specs.Sequences.{bit, rank}
use Rattle.bits.proofs.Tests.{look}
use Rattle.model.specs.Walk.{zeros_in}
use Rattle.model.proofs.Wavelet.Counts.{ones_step}
use Rattle.wavelet.proofs.Ranges.{byte_le}
use Rattle.weights.specs.Documents.{of_two}

-- a test as a number, in the code and in the definition
byte_bit : (b : Bool) → bool_byte b ≡ bit b
byte_bit true = refl
byte_bit false = refl

bit_few : (c : ℕ) → c < 2 → bit (ltb 0 c) ≡ c
bit_few zero l = refl
bit_few (suc zero) l = refl
bit_few (suc (suc c)) l = absurd (omega arith)

ltb_sub : (r c : ℕ) → ltb r c ≡ ltb 0 (c - r)
ltb_sub r c = go (look (ltb r c))
  where
    go : (ltb r c ≡ true) ⊎ (ltb r c ≡ false) → ltb r c ≡ ltb 0 (c - r)
    go (inl t) = let l = ltb-true r c t in t ∙ sym (lt-ltb 0 (c - r) (omega arith))
    go (inr f) = let l = ltb-false r c f in f ∙ sym (le-ltb 0 (c - r) (omega arith))

-- whether there is an entry from a up to but without b
pub byte_some : (a b : ℕ) → bool_byte (ltb a b) ≡ bit (ltb 0 (b - a))
byte_some a b = byte_bit (ltb a b) ∙ ap bit (ltb_sub a b)

module _ (bits : List ℕ) (lo hi : ℕ) (order : lo ≤ hi) where
  -- a range of one entry has one document, an empty one none
  pub two_few : hi - lo < 2 → (hi - lo ≡ of_two bits lo hi) × (hi - lo ≤ hi - lo)
  two_few l =
      let s = ones_step bits lo hi order in
      (omega (arith, bit_few (zeros_in bits lo hi) (omega arith), bit_few (rank 1 bits hi - rank 1 bits lo) (omega arith)), omega arith)

  pub two_le : (r : ℕ) → bool_byte (ltb 0 r) + bool_byte (ltb r (hi - lo)) ≤ 2
  two_le r = omega (arith, byte_le (ltb 0 r), byte_le (ltb r (hi - lo)))

  pub two-are : (r : ℕ) → r ≡ rank 1 bits hi - rank 1 bits lo → 2 ≤ hi - lo
      → (bool_byte (ltb 0 r) + bool_byte (ltb r (hi - lo)) ≡ of_two bits lo hi) × (bool_byte (ltb 0 r) + bool_byte (ltb r (hi - lo)) ≤ hi - lo)
  two-are r e l =
      let one : bool_byte (ltb 0 r) ≡ bit (ltb 0 (rank 1 bits hi - rank 1 bits lo)) = byte_bit (ltb 0 r) ∙ ap (λ (k : ℕ). bit (ltb 0 k)) e in
      let none : bool_byte (ltb r (hi - lo)) ≡ bit (ltb 0 (zeros_in bits lo hi)) =
      byte_some r (hi - lo) ∙ ap (λ (k : ℕ). bit (ltb 0 (hi - lo - k))) e in
      (omega (arith, one, none), omega (arith, two_le r))
