-- How large the parts of an archive within the limits can be.
use Prim.Native.Nat.{ℕ, zero, suc, max, ◌+◌, ◌-◌, ◌*◌, ◌/◌, ◌%◌, ◌^◌, ◌≤◌, ◌<◌, zero-le}
use mathlib.Core.Path.{◌≡◌, ap, ◌∙◌}
use mathlib.Core.List.{[], ◌∷◌}
use native.Mathlib.Omega.{arith}
use native.Mathlib.Nat.{mul-le-mul, two-pow-succ}
use native.Mathlib.Decide.{dec_le}
use lib.Pow.{pow_pos, pow_mono, pow-lt, shl_exact}
use lib.Dec.{lit<}
use Rattle.std.specs.Int.{IsPowerOfTwo}
use Rattle.bits.specs.Bits.{row_bytes, sample_count}
use Rattle.model.specs.Rows.{height}
use Rattle.model.specs.Format.{header}
use Rattle.model.proofs.Height.{height_le, height_le_12, lt_height}
use Rattle.archive.specs.declared.Layout.{Layout}
use Rattle.archive.specs.Layout.{sizes_in, Fitting}

-- the height is the exponent of the next power of two

exponent : (k h : ℕ) → 2 ^ h ≤ 2 ^ k → 2 ^ k < 2 * 2 ^ h → k ≡ h
exponent k h below above = go (dec_le h k) (dec_le (suc h) k)
  where
    go : Dec (h ≤ k) → Dec (suc h ≤ k) → k ≡ h
    go (no a) _ = let m = pow-lt {i = k} {j = h} (omega arith) in absurd (omega arith)
    go (yes a) (yes b) = let m = pow_mono {i = suc h} {j = k} b in absurd (omega (arith, two-pow-succ h))
    go (yes a) (no b) = omega arith

height_least : (n h : ℕ) → 2 ^ h / 2 < max 1 n → h ≤ height n
height_least n zero above = zero-le
height_least n (suc g) above =
    let half : 2 ^ suc g / 2 ≡ 2 ^ g = omega (arith, two-pow-succ g) in
    lt_height n g (omega (arith, pow_pos g))

pub height-power : (n p h : ℕ) → n ≤ 4096 → IsPowerOfTwo p → n ≤ p → p / 2 < max 1 n → 2 ^ h ≤ p → p < 2 * 2 ^ h → (h ≡ height n) × (h ≤ 12)
height-power n p h few (k, e) low high below above =
    let same = exponent k h (omega arith) (omega arith) in
    let power : p ≡ 2 ^ h = e ∙ ap (λ (x : ℕ). 2 ^ x) same in
    let most = height_least n h (rw power at high) in
    (omega (arith, most, height_le n h (omega arith)), omega (arith, most, height_le n h (omega arith), height_le_12 n few))

module _ (h n : ℕ) (low : h ≤ 12) (few : n ≤ 65535) where
  pub samples_bound : h * (4 * sample_count n) ≤ 12 * 512
  samples_bound =
      let b : 4 * sample_count n ≤ 512 = omega arith in
      mul-le-mul low b

  pub rows_bound : h * row_bytes n ≤ 12 * 8192
  rows_bound =
      let b : row_bytes n ≤ 8192 = omega arith in
      mul-le-mul low b

-- the numbers of a layout, and how large they can be
pub record Bounded (l : Layout) : Type 0 where
  pub height_is : l.levels.height ≡ height l.documents
  pub low : l.levels.height ≤ 12
  pub samples_is : l.levels.samples ≡ 40 + 8 * l.terms
  pub rows_is : l.levels.rows ≡ l.levels.samples + l.levels.height * (4 * sample_count l.levels.entries)
  pub samples_few : l.levels.height * (4 * sample_count l.levels.entries) ≤ 12 * 512
  pub rows_few : l.levels.height * row_bytes l.levels.entries ≤ 12 * 8192

pub bounded : (l : Layout) → Fitting l → Bounded l
bounded l f =
    let h : l.levels.height ≡ height l.documents = ap (λ (x : Layout). x.levels.height) f.shape in
    let low : l.levels.height ≤ 12 = omega (arith, height_le_12 l.documents f.documents) in
    let s : l.levels.samples ≡ 40 + 8 * l.terms = ap (λ (x : Layout). x.levels.samples) f.shape in
    record {
      height_is = h;
      low = low;
      samples_is = s;
      rows_is = rw (h, s) (ap (λ (x : Layout). x.levels.rows) f.shape);
      samples_few = samples_bound l.levels.height l.levels.entries low f.entries;
      rows_few = rows_bound l.levels.height l.levels.entries low f.entries;
    }

-- the numbers of the header, as the code computes them
pub header_is : (l : Layout) → Fitting l
    → 1 ∷ l.levels.entries ∷ l.documents ∷ l.terms ∷ 40 ∷ (8 * l.terms) ∷ l.levels.samples ∷ (l.levels.rows - l.levels.samples) ∷ l.levels.rows
    ∷ (l.levels.height * row_bytes l.levels.entries) ∷ []
    ≡ header (sizes_in l)
header_is l f =
    let b = bounded l f in
    let h = b.height_is in
    let samples = ap (λ (x : Layout). x.levels.samples) f.shape in
    let rows = ap (λ (x : Layout). x.levels.rows) f.shape in
    let n = l.levels.entries in
    let length : l.levels.rows - l.levels.samples ≡ height l.documents * (4 * sample_count n) =
    omega (arith, b.rows_is) ∙ ap (λ (k : ℕ). k * (4 * sample_count n)) h in
    λ i. 1 ∷ n ∷ l.documents ∷ l.terms ∷ 40 ∷ (8 * l.terms) ∷ samples i ∷ length i ∷ rows i ∷ (h i * row_bytes n) ∷ []

-- ---- how many keys a level has

module _ (j : ℕ) (low : j < 12) where
  pub key-count : 2 ^ j ≤ 4096
  key-count = pow_mono {j = 12} (omega arith)

  -- as the code computes it
  pub shl_key : 1 * 2 ^ j % 18446744073709551616 ≡ 2 ^ j
  shl_key = shl_exact {a = 1} 1 j 64 (lit< tt) (omega arith) ∙ omega arith
