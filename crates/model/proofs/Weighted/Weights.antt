-- Weights: the definition finds the largest g with 2 ^ g * df ^ 4 at most N ^ 4, and it is at most 48.
use Prim.Native.Nat.{ℕ, zero, suc, ◌+◌, ◌*◌, ◌^◌, ◌≤◌, ◌<◌}
use native.Mathlib.Omega.{arith}
use native.Mathlib.Decide.{dec_le, ℕ_discrete}
use native.Mathlib.Nat.{le_refl, pow-suc, pow-zero, one-le-pow, pow-le-pow_left, mul-le-mul_left, mul-le-mul_right, one-mul}
use mathlib.Core.Path.{◌≡◌, sym, ap, ◌∙◌, subst}
use mathlib.Core.Logic.{◌⊎◌, inl, inr}
use mathlib.Core.Bool.{Bool, true, false, cond}
use lib.Pow.{pow-lt, pow_mono, pow-add}
use lib.Dec.{eqb}
use borrow.Author.Tests.{leb-true, le-leb, ne_eqb}
use Rattle.bits.proofs.Tests.{look}
use Rattle.model.specs.Rows.{height}
use Rattle.model.specs.Weighted.{Largest, largest, weighs, weight}
use Rattle.model.proofs.Height.{le_pow-height, height_le_12}

-- ---- the largest number that passes a test

pub largest_le : (p : ℕ → Bool) (n : ℕ) → largest p n ≤ n
largest_le p zero = omega arith
largest_le p (suc n) = go (p (suc n)) (largest_le p n)
  where
    go : (b : Bool) → largest p n ≤ n → cond b (suc n) (largest p n) ≤ suc n
    go true ih = le_refl (suc n)
    go false ih = omega arith

pub largest_passes : (p : ℕ → Bool) (n : ℕ) → p 0 ≡ true → p (largest p n) ≡ true
largest_passes p zero e = e
largest_passes p (suc n) e = go (look (p (suc n))) (largest_passes p n e)
  where
    go : (p (suc n) ≡ true) ⊎ (p (suc n) ≡ false) → p (largest p n) ≡ true → p (largest p (suc n)) ≡ true
    go (inl t) ih = rw t t
    go (inr f) ih = rw f ih

pub largest_most : (p : ℕ → Bool) (n g : ℕ) → g ≤ n → p g ≡ true → g ≤ largest p n
largest_most p zero g l e = l
largest_most p (suc n) g l e = go (look (p (suc n))) (ℕ_discrete g (suc n)) (λ k. largest_most p n g k e)
  where
    go : (p (suc n) ≡ true) ⊎ (p (suc n) ≡ false) → Dec (g ≡ suc n) → (g ≤ n → g ≤ largest p n) → g ≤ largest p (suc n)
    go (inl t) d ih = rw t l
    go (inr f) (yes d) ih = let z : true ≡ false = sym e ∙ ap p d ∙ f in absurd (let n : ◌≡◌ {A = ℕ} 0 1 = cc in omega arith)
    go (inr f) (no d) ih = rw f (ih (omega arith))

-- ---- weights

pub fourth : (x : ℕ) → x ^ 4 ≡ x * x * (x * x)
fourth x = pow-add x 2 2 ∙ ap (λ (y : ℕ). y * y) (pow-suc x 1 ∙ ap (λ (y : ℕ). y * x) (pow-suc x 0 ∙ ap (λ (y : ℕ). y * x) (pow-zero x) ∙ one-mul x))

fourth_le : (N h : ℕ) → N ≤ 2 ^ h → N ^ 4 ≤ 2 ^ (4 * h)
fourth_le N h l =
    let e : 4 * h ≡ h + h + (h + h) = omega arith in
    let whole : (2 ^ h) ^ 4 ≡ 2 ^ (4 * h) = rw (e, pow-add 2 (h + h) (h + h), pow-add 2 h h) (fourth (2 ^ h)) in
    subst (λ (x : ℕ). N ^ 4 ≤ x) whole (pow-le-pow_left l 4)

pub weight_le : (N df : ℕ) → weight N df ≤ 4 * height N
weight_le N df = go (eqb df 0)
  where
    go : (b : Bool) → cond b 0 (largest (weighs N df) (4 * height N)) ≤ 4 * height N
    go true = omega arith
    go false = largest_le (weighs N df) (4 * height N)

pub weight_le_48 : (N df : ℕ) → N ≤ 4096 → weight N df ≤ 48
weight_le_48 N df l = omega (arith, weight_le N df, height_le_12 N l)

-- no g above 4 * h fits
fits_le : (N df g : ℕ) → 1 ≤ df → 2 ^ g * df ^ 4 ≤ N ^ 4 → g ≤ 4 * height N
fits_le N df g some fits = go (dec_le g (4 * height N))
  where
    go : Dec (g ≤ 4 * height N) → g ≤ 4 * height N
    go (yes k) = k
    go (no k) =
        let up : 2 ^ (4 * height N) < 2 ^ g = pow-lt (omega arith) in
        let top = fourth_le N (height N) (le_pow-height N) in
        let one : 2 ^ g * 1 ≤ 2 ^ g * df ^ 4 = mul-le-mul_left (2 ^ g) (one-le-pow 4 df some) in
        absurd (omega arith)

pub fits_le_48 : (N df g : ℕ) → 1 ≤ df → N ≤ 4096 → 2 ^ g * df ^ 4 ≤ N ^ 4 → g ≤ 48
fits_le_48 N df g some few fits = omega (arith, fits_le N df g some fits, height_le_12 N few)

-- the weight is the largest
pub weight-largest : (N df : ℕ) → 1 ≤ df → df ≤ N → Largest N df (weight N df)
weight-largest N df some few =
    let none : eqb df 0 ≡ false = ne_eqb df 0 (λ e. omega arith) in
    let first : 2 ^ 0 * df ^ 4 ≤ N ^ 4 = subst (λ (x : ℕ). x ≤ N ^ 4) (sym (one-mul (df ^ 4))) (pow-le-pow_left few 4) in
    rw none (record {
      fits = leb-true (2 ^ g * df ^ 4) (N ^ 4) (largest_passes (weighs N df) (4 * height N) (le-leb (2 ^ 0 * df ^ 4) (N ^ 4) first));
      most = λ m l. largest_most (weighs N df) (4 * height N) m (fits_le N df m some l) (le-leb (2 ^ m * df ^ 4) (N ^ 4) l);
    })
  where
    g : ℕ
    g = largest (weighs N df) (4 * height N)

-- there is one alone
pub largest_unique : (N df g m : ℕ) → Largest N df g → Largest N df m → g ≡ m
largest_unique N df g m a b = omega (arith, a.most m b.fits, b.most g a.fits)

-- known by the next that does not fit
pub largest-of : (N df g : ℕ) → 2 ^ g * df ^ 4 ≤ N ^ 4 → N ^ 4 < 2 ^ suc g * df ^ 4 → Largest N df g
largest-of N df g fits next = record { fits = fits; most = λ m l. go m l (dec_le m g) }
  where
    go : (m : ℕ) → 2 ^ m * df ^ 4 ≤ N ^ 4 → Dec (m ≤ g) → m ≤ g
    go m l (yes k) = k
    go m l (no k) =
        let up : 2 ^ suc g * df ^ 4 ≤ 2 ^ m * df ^ 4 = mul-le-mul_right (df ^ 4) (pow_mono (omega arith)) in
        absurd (omega arith)
