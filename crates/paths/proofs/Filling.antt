-- Eight numbers of which one after another is filled for the terms of a question.
use Prim.Native.Nat.{ℕ, ◌+◌, ◌≤◌, ◌<◌}
use native.Mathlib.Omega.{arith}
use mathlib.Core.Path.{◌≡◌, ◌∙◌, subst}
use mathlib.Core.Logic.{◌⊎◌, inl, inr}
use mathlib.Core.List.{List}
use lib.ListN.{length, get_or, set, length-set}
use lib.Seq.{get_or-set_same, get_or-set_other}
use Rattle.bits.proofs.Tests.{le_or_lt}

-- the first k numbers are what f says of their terms
pub record Filling (f : ℕ → ℕ) (ts : List ℕ) (filled : List ℕ) (k : ℕ) : Type 0 where
  pub room : length filled ≡ 8
  pub inside : k ≤ length ts
  pub said : (i : ℕ) → i < k → get_or filled i 0 ≡ f (get_or ts i 0)

module _ (f : ℕ → ℕ) (ts : List ℕ) (few : length ts ≤ 8) where
  pub filling_start : (filled : List ℕ) → length filled ≡ 8 → Filling f ts filled 0
  filling_start filled n = record { room = n; inside = omega arith; said = λ i m. absurd (omega arith) }

  module _ {filled : List ℕ} {k : ℕ} (o : Filling f ts filled k) where
    pub filling_next : k < length ts → (x : ℕ) → x ≡ f (get_or ts k 0) → Filling f ts (set filled k x) (k + 1)
    filling_next l x e = record { room = length-set filled k x ∙ o.room; inside = omega arith; said = λ i m. go i m (le_or_lt k i) }
      where
        go : (i : ℕ) → i < k + 1 → (k ≤ i) ⊎ (i < k) → get_or (set filled k x) i 0 ≡ f (get_or ts i 0)
        go i m (inl n) =
            let same : k ≡ i = omega arith in
            subst (λ (j : ℕ). get_or (set filled k x) j 0 ≡ f (get_or ts j 0)) same
            (get_or-set_same filled k x 0 (let r = o.room in omega arith) ∙ e)
        go i m (inr n) = get_or-set_other filled k i x 0 (λ z. omega arith) ∙ o.said i n

    pub filling_end : length ts ≤ k → (i : ℕ) → i < length ts → get_or filled i 0 ≡ f (get_or ts i 0)
    filling_end l i m = o.said i (omega arith)
