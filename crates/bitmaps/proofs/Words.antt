-- The word of a node: of an empty range, of a leaf, of the last row, and of the halves of a node one after the other.
use Prim.Native.Nat.{ℕ, zero, suc, ◌+◌, ◌-◌, ◌*◌, ◌%◌, ◌^◌, ◌≤◌, ◌<◌}
use native.Mathlib.Nat.{mul_comm, mul-zero, le-pred_of_lt}
use native.Mathlib.Numerals.{add-one}
use native.Mathlib.Omega.{arith}
use mathlib.Core.Path.{◌≡◌, refl, sym, ap, ap₂, ◌∙◌, subst}
use mathlib.Core.List.{List}
use mathlib.Core.Bool.{Bool, true, false}
use lib.Dec.{ltb}
use lib.Pow.{pow_pos, pow-add, pow_mono, shl_exact}
use borrow.Author.Tests.{lt-ltb, le-ltb, ltb-true, ltb-false}
use mir.Val.{bool_byte}
use Rattle.bits.specs.Sequences.{bit, rank}
use Rattle.bits.proofs.Tests.{bit_le}
use Rattle.model.specs.Walk.{zeros_in}
use Rattle.wavelet.specs.declared.Levels.{Levels}
use Rattle.wavelet.specs.declared.Span.{Span}
use Rattle.wavelet.specs.declared.Halves.{Halves}
use Rattle.wavelet.specs.Levels.{level_of}
use Rattle.wavelet.specs.Spans.{Ordered, span, halves_of}
use Rattle.wavelet.proofs.Steps.{Level, zero-count, one-count}
use Rattle.bitmaps.specs.Words.{span_word, last_word}
use Rattle.bitmaps.proofs.Blocks.{double, digits_fit}

module _ (rows : ℕ → List ℕ) where
  pub word_fits : (k j : ℕ) (s : Span) → span_word rows k j s < 2 ^ (2 ^ k)
  word_fits zero j s = omega (arith, bit_le (ltb 0 (s.hi - s.lo)))
  word_fits (suc k) j s =
      let two = halves_of (rows j) s in
      rw (double k)
      (digits_fit (2 ^ (2 ^ k)) (span_word rows k (suc j) two.zero) (span_word rows k (suc j) two.one) (word_fits k (suc j) two.zero) (word_fits k (suc j) two.one))

  -- a range without entries
  pub word_empty : (k j : ℕ) (s : Span) → s.lo ≡ s.hi → span_word rows k j s ≡ 0
  word_empty zero j s e = ap bit (le-ltb 0 (s.hi - s.lo) (omega arith))
  word_empty (suc k) j s e =
      let zeros = word_empty k (suc j) (halves_of (rows j) s).zero (ap (λ p. (halves_of (rows j) (span s.start p p s.end)).zero.lo) e) in
      let ones = word_empty k (suc j) (halves_of (rows j) s).one (ap (λ p. (halves_of (rows j) (span s.start p p s.end)).one.lo) e) in
      ap₂ (λ x y. x + 2 ^ (2 ^ k) * y) zeros ones ∙ omega (arith, mul-zero (2 ^ (2 ^ k)))

  -- a leaf with one
  pub word_leaf : (k j : ℕ) (s : Span) → k ≡ 0 → s.lo < s.hi → span_word rows k j s ≡ 1
  word_leaf k j s z l = rw z (ap bit (lt-ltb 0 (s.hi - s.lo) (omega arith)))

  -- a node of the last row
  pub word_last : (n k j : ℕ) (s : Span) → k ≡ 1 → Level n (rows j) → Ordered n s → span_word rows k j s ≡ last_word (rows j) s.lo s.hi
  word_last n k j s z v o =
      ap (λ k. span_word rows k j s) z
      ∙ ap₂ (λ x y. bit (ltb 0 x) + 2 * bit (ltb 0 y)) (zero-count (rows j) n v s o) (one-count (rows j) n v s o)

  -- a node of level j above the leaves, in a tree of height h: the words of its halves, one after the other
  module _ (h j : ℕ) (s : Span) (above : j < h) where
    pub word_node : (two : Halves) (a b w r : ℕ) → two ≡ halves_of (rows j) s
        → a ≡ span_word rows (h - (j + 1)) (j + 1) two.zero → b ≡ span_word rows (h - (j + 1)) (j + 1) two.one
        → w ≡ 2 ^ (h - j - 1) → r ≡ a + 2 ^ w * b → (r ≡ span_word rows (h - j) j s) × (r < 2 ^ (2 ^ (h - j)))
    word_node two a b w r halves pa pb pw pr =
        let k = h - (j + 1) in
        let same : h - j - 1 ≡ k = omega arith in
        let down : h - j ≡ suc k = omega arith in
        let whole : r ≡ span_word rows (h - j) j s
        = pr ∙ (λ i. pa i + 2 ^ (pw i) * pb i)
        ∙ (λ i. span_word rows k (add-one j i) (halves i).zero + 2 ^ (2 ^ same i) * span_word rows k (add-one j i) (halves i).one)
        ∙ ap (λ k. span_word rows k j s) (sym down) in
        (whole, rw whole (word_fits (h - j) j s))

-- ---- the word of a node of level j, which is 0 where its range is empty

abbrev pub Half : List ℕ → Levels → ℕ → Span → ℕ → Type 0
Half bytes t j s w = (w ≡ span_word (level_of bytes t) (t.height - j) j s) × (w < 2 ^ (2 ^ (t.height - j)))

module _ (bytes : List ℕ) (t : Levels) (j : ℕ) (s : Span) (w : ℕ) where
  pub half_empty : s.lo ≡ s.hi → w ≡ 0 → Half bytes t j s w
  half_empty e z = (z ∙ sym (word_empty (level_of bytes t) (t.height - j) j s e), rw z (pow_pos (2 ^ (t.height - j))))

  pub half_same : (r : ℕ) → Half bytes t j s r → w ≡ r → Half bytes t j s w
  half_same r h e = subst (Half bytes t j s) (sym e) h

-- ---- shifts

pub below_width : (h j a w : ℕ) → a < 2 ^ (2 ^ (h - (j + 1))) → w ≡ 2 ^ (h - j - 1) → a < 2 ^ w
below_width h j a w f e =
    let same : h - j - 1 ≡ h - (j + 1) = omega arith in
    rw (e, same) f

pub small_width : (k : ℕ) → k < 6 → 2 ^ k ≤ 32
small_width k h = pow_mono (le-pred_of_lt h)

-- documents of a word
pub document_fits : (n d : ℕ) → n ≤ 6 → d < 2 ^ n → d < 64
document_fits n d l f =
    let most : 2 ^ n ≤ 2 ^ 6 = pow_mono {i = n} {j = 6} l in
    omega (arith, f)

pub beside_fits : (x y documents : ℕ) → x < 2 ^ documents → y < 2 ^ documents → documents ≤ 32 → x + 2 ^ documents * y < 2 ^ 64
beside_fits x y documents l m b =
    let square : 2 ^ (documents + documents) ≡ 2 ^ documents * 2 ^ documents = pow-add 2 documents documents in
    let most : 2 ^ (documents + documents) ≤ 2 ^ 64 = pow_mono {i = documents + documents} {j = 64} (omega arith) in
    omega (arith, digits_fit (2 ^ documents) x y l m)

pub shifted : (y documents : ℕ) → y < 2 ^ documents → documents ≤ 32 → y * 2 ^ documents % 2 ^ 64 ≡ 2 ^ documents * y
shifted y documents l b = shl_exact documents documents 64 l (omega arith) ∙ mul_comm y (2 ^ documents)

-- ---- the last row, by its ones

byte_some : (a b n : ℕ) → b - a ≡ n → bool_byte (ltb a b) ≡ bit (ltb 0 n)
byte_some a b n d = go (ltb a b) refl
  where
    go : (c : Bool) → ltb a b ≡ c → bool_byte c ≡ bit (ltb 0 n)
    go true e = let l = ltb-true a b e in sym (ap bit (lt-ltb 0 n (omega arith)))
    go false e = let l = ltb-false a b e in sym (ap bit (le-ltb 0 n (omega arith)))

pub last_by_ones : (bits : List ℕ) (lo hi r : ℕ) → r ≡ rank 1 bits hi - rank 1 bits lo
    → bool_byte (ltb r (hi - lo)) + 2 * bool_byte (ltb 0 r) ≡ last_word bits lo hi
last_by_ones bits lo hi r e =
    ap₂ (λ x y. x + 2 * y) (byte_some r (hi - lo) (zeros_in bits lo hi) (ap (λ n. hi - lo - n) e)) (byte_some 0 r (rank 1 bits hi - rank 1 bits lo) (omega arith))

pub last_fits : (bits : List ℕ) (lo hi : ℕ) → last_word bits lo hi < 4
last_fits bits lo hi = omega (arith, bit_le (ltb 0 (zeros_in bits lo hi)), bit_le (ltb 0 (rank 1 bits hi - rank 1 bits lo)))
