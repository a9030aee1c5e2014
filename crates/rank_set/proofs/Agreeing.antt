-- Documents that agree but for their last bits: the fewest such bits of two.
use Prim.Native.Nat.{ℕ, ◌+◌, ◌/◌, ◌^◌, ◌≤◌, ◌<◌}
use native.Mathlib.Omega.{arith}
use native.Mathlib.Nat.{div-eq_of_lt}
use mathlib.Core.Path.{◌≡◌, sym, ap, ◌∙◌}
use mathlib.Core.Logic.{◌⊎◌, inl, inr}
use Rattle.bits.proofs.Tests.{le_or_lt}

-- they differ but for fewer last bits
abbrev pub Apart : ℕ → ℕ → ℕ → Type 0
Apart x y height = (k : ℕ) → k < height → x / 2 ^ k ≡ y / 2 ^ k → ⊥

-- documents of twelve bits that differ without their last `height` bits: there are more to go
pub apart_low : (x y height : ℕ) → x < 4096 → y < 4096 → height ≤ 12 → (x / 2 ^ height ≡ y / 2 ^ height → ⊥) → height < 12
apart_low x y height a b l n = go (le_or_lt 12 height)
  where
    go : (12 ≤ height) ⊎ (height < 12) → height < 12
    go (inr m) = m
    go (inl m) =
        let e : 12 ≡ height = omega arith in
        absurd (n (ap (λ (k : ℕ). x / 2 ^ k) (sym e) ∙ div-eq_of_lt a ∙ sym (div-eq_of_lt b) ∙ ap (λ (k : ℕ). y / 2 ^ k) e))

pub apart_next : (x y height : ℕ) → Apart x y height → (x / 2 ^ height ≡ y / 2 ^ height → ⊥) → Apart x y (height + 1)
apart_next x y height h n k l e = go (le_or_lt height k)
  where
    go : (height ≤ k) ⊎ (k < height) → ⊥
    go (inl m) =
        let same : k ≡ height = omega arith in
        n (ap (λ (i : ℕ). x / 2 ^ i) (sym same) ∙ e ∙ ap (λ (i : ℕ). y / 2 ^ i) same)
    go (inr m) = h k m e

pub apart_least : (x y height : ℕ) → Apart x y height → (k : ℕ) → x / 2 ^ k ≡ y / 2 ^ k → height ≤ k
apart_least x y height h k e = go (le_or_lt height k)
  where
    go : (height ≤ k) ⊎ (k < height) → height ≤ k
    go (inl l) = l
    go (inr l) = absurd (h k l e)
