-- Down the tree by the bits of a value: the induction of every walk that follows one value from the root to its leaf.
use Prim.Native.Nat.{ℕ, zero, suc, ◌+◌, ◌-◌, ◌*◌, ◌/◌, ◌%◌, ◌^◌, ◌<◌}
use mathlib.Core.Path.{◌≡◌, sym, ap, ◌∙◌, subst, subst₂}
use mathlib.Core.Bool.{true, false}
use native.Mathlib.Nat.{zero-add, mod-lt, zero-lt-suc}
use native.Mathlib.Omega.{arith}
use native.Mathlib.Decide.{ℕ_discrete}
use lib.Dec.{eqb}
use borrow.Author.Tests.{eq-eqb, ne_eqb}
use Rattle.model.specs.Walk.{key}
use Rattle.model.proofs.Wavelet.Rows.{key_half, key_lt, key_leaf, key-root}

module _ (h v : ℕ) (P : ℕ → ℕ → ℕ → Type 0) where
  -- from a half of the node q of depth j, with m rows below it, to that node
  abbrev pub FromLow : Type 0
  FromLow = (m j q : ℕ) → j + suc m ≡ h → q < 2 ^ j → key h j v ≡ q → key h (suc j) v ≡ 2 * q → eqb (v / 2 ^ m % 2) 1 ≡ false
      → P m (suc j) (2 * q) → P (suc m) j q

  abbrev pub FromHigh : Type 0
  FromHigh = (m j q : ℕ) → j + suc m ≡ h → q < 2 ^ j → key h j v ≡ q → key h (suc j) v ≡ 2 * q + 1 → eqb (v / 2 ^ m % 2) 1 ≡ true
      → P m (suc j) (2 * q + 1) → P (suc m) j q

module _ (h v : ℕ) (b : v < 2 ^ h) (P : ℕ → ℕ → ℕ → Type 0) (leaf : P 0 h v) (low : FromLow h v P) (high : FromHigh h v P) where
  descend-from : (m j q : ℕ) → j + m ≡ h → key h j v ≡ q → P m j q
  descend-from zero j q e k =
      let d : h ≡ j = omega arith in
      subst₂ (P 0) d (sym (key_leaf h v) ∙ ap (λ (n : ℕ). key h n v) d ∙ k) leaf
  descend-from (suc m) j q e k =
      let d : m ≡ h - suc j = omega arith in
      go (subst (λ (n : ℕ). n < 2 ^ j) k (key_lt h j v (omega arith) b)) (sym (key_half h j v (omega arith)) ∙ k) (ap (λ (n : ℕ). v / 2 ^ n % 2) d)
      (λ c. descend-from m (suc j) c (omega arith)) (ℕ_discrete (key h (suc j) v % 2) 1)
    where
      go : q < 2 ^ j → key h (suc j) v / 2 ≡ q → v / 2 ^ m % 2 ≡ key h (suc j) v % 2 → ((c : ℕ) → key h (suc j) v ≡ c → P m (suc j) c)
          → Dec (key h (suc j) v % 2 ≡ 1) → P (suc m) j q
      go l f t ih (yes o) =
          let s : key h (suc j) v ≡ 2 * q + 1 = omega arith in
          high m j q e l k s (eq-eqb (v / 2 ^ m % 2) 1 (t ∙ o)) (ih (2 * q + 1) s)
      go l f t ih (no o) =
          let s : key h (suc j) v ≡ 2 * q = omega (arith, mod-lt (key h (suc j) v) {m = 2} (zero-lt-suc 1)) in
          low m j q e l k s (ne_eqb (v / 2 ^ m % 2) 1 (λ z. o (sym t ∙ z))) (ih (2 * q) s)

  pub descend : P h 0 0
  descend = descend-from h 0 0 (zero-add h) (key-root h v b)
