-- The words of the blocks under a node: of an empty range, of a node that is a block, and of the halves of a node, and how many there are.
use Prim.Native.Nat.{ℕ, zero, suc, ◌+◌, ◌-◌, ◌*◌, ◌/◌, ◌%◌, ◌^◌, ◌≤◌}
use native.Mathlib.Nat.{pow-suc}
use native.Mathlib.Numerals.{add-one}
use native.Mathlib.Omega.{arith}
use mathlib.Core.Path.{◌≡◌, refl, sym, ap, ◌∙◌}
use mathlib.Core.List.{List, [], ◌∷◌, ◌++◌}
use lib.ListN.{length, length-append, replicate, replicate-append-replicate}
use lib.Pow.{pow_pos, pow_mono}
use lib.Seq.{sets}
use Rattle.wavelet.specs.declared.Span.{Span}
use Rattle.wavelet.specs.declared.Halves.{Halves}
use Rattle.wavelet.specs.Spans.{span, halves_of}
use Rattle.bitmaps.specs.Words.{block_height, span_word, words_from}
use Rattle.model.proofs.Stores.{sets_append}
use Rattle.bits.proofs.Bits.{shl_one_word}
use Rattle.bitmaps.proofs.Words.{word_empty}

-- ---- how many blocks

pub twice : (m : ℕ) → 2 ^ m + 2 ^ m ≡ 2 ^ suc m
twice m = omega (arith, pow-suc 2 m)

pub record Split (blocks h k j : ℕ) : Type 0 where
  pub above : j + 1 + k ≤ h
  pub half : blocks / 2 ≡ 2 ^ (h - k - (j + 1))
  pub both : blocks ≡ blocks / 2 + blocks / 2
  pub deeper : h - k - j ≡ suc (h - k - (j + 1))

pub one_block : (m blocks : ℕ) → blocks ≡ 2 ^ m → blocks ≡ 1 → m ≡ 0
one_block zero blocks e o = refl
one_block (suc m) blocks e o = absurd (omega (arith, pow-suc 2 m, pow_pos m))

pub more_blocks : (h k j blocks : ℕ) → j + k ≤ h → blocks ≡ 2 ^ (h - k - j) → (blocks ≡ 1 → ⊥) → Split blocks h k j
more_blocks h k j blocks l e o = go (h - k - j) refl
  where
    go : (m : ℕ) → h - k - j ≡ m → Split blocks h k j
    go zero d = absurd (o (e ∙ ap (λ m. 2 ^ m) d))
    go (suc m) d =
        let next : h - k - (j + 1) ≡ m = omega arith in
        let all : blocks ≡ 2 ^ suc m = e ∙ ap (λ m. 2 ^ m) d in
        let half : blocks / 2 ≡ 2 ^ m = omega (arith, pow-suc 2 m) in
        record {
          above = omega arith;
          half = rw next half;
          both = omega (arith, twice m);
          deeper = rw next d;
        }

-- above the blocks: they have 64 documents
pub block_six : (h j : ℕ) → j + 1 + block_height h ≤ h → block_height h ≡ 6
block_six h j l = omega arith

-- of a tree of height h
pub all_blocks : (h : ℕ) → h ≤ 12 → 1 * 2 ^ (h - 6) % 2 ^ 64 ≡ 2 ^ (h - block_height h - 0)
all_blocks h l =
    let same : h - 6 ≡ h - block_height h - 0 = omega arith in
    shl_one_word (h - 6) (omega arith) ∙ ap (λ m. 2 ^ m) same

pub all_few : (h blocks : ℕ) → h ≤ 12 → blocks ≡ 2 ^ (h - block_height h - 0) → blocks ≤ 64
all_few h blocks l e =
    let most : 2 ^ (h - block_height h - 0) ≤ 2 ^ 6 = pow_mono {i = h - block_height h - 0} {j = 6} (omega arith) in
    omega arith

-- ---- their words

module _ (rows : ℕ → List ℕ) (k : ℕ) where
  pub length-words : (m j : ℕ) (s : Span) → length (words_from rows k m j s) ≡ 2 ^ m
  length-words zero j s = refl
  length-words (suc m) j s =
      let two = halves_of (rows j) s in
      length-append (words_from rows k m (suc j) two.zero) (words_from rows k m (suc j) two.one)
      ∙ (λ i. length-words m (suc j) two.zero i + length-words m (suc j) two.one i) ∙ twice m

  -- a range without entries
  pub words-empty : (m j : ℕ) (s : Span) → s.lo ≡ s.hi → words_from rows k m j s ≡ replicate (2 ^ m) 0
  words-empty zero j s e = ap (λ w. w ∷ []) (word_empty rows k j s e)
  words-empty (suc m) j s e =
      let two = halves_of (rows j) s in
      let zeros : two.zero.lo ≡ two.zero.hi = ap (λ p. (halves_of (rows j) (span s.start p p s.end)).zero.lo) e in
      let ones : two.one.lo ≡ two.one.hi = ap (λ p. (halves_of (rows j) (span s.start p p s.end)).one.lo) e in
      (λ i. words-empty m (suc j) two.zero zeros i ++ words-empty m (suc j) two.one ones i)
      ∙ replicate-append-replicate {A = ℕ} (2 ^ m) (2 ^ m) 0 ∙ ap (λ n. replicate n 0) (twice m)

  -- in a tree of height h
  module _ (h j : ℕ) (s : Span) (l : j + k ≤ h) where
    -- a node that is a block
    pub words_block : h - k - j ≡ 0 → (w : ℕ) → w ≡ span_word rows (h - j) j s → w ∷ [] ≡ words_from rows k (h - k - j) j s
    words_block z w e =
        let height : h - j ≡ k = omega arith in
        ap (λ w. w ∷ []) (e ∙ ap (λ n. span_word rows n j s) height) ∙ ap (λ m. words_from rows k m j s) (sym z)

    -- a node above the blocks
    module _ (two : Halves) (e : two ≡ halves_of (rows j) s) (deeper : h - k - j ≡ suc (h - k - (j + 1))) where
      pub words-halves : words_from rows k (h - k - (j + 1)) (j + 1) two.zero ++ words_from rows k (h - k - (j + 1)) (j + 1) two.one
          ≡ words_from rows k (h - k - j) j s
      words-halves =
          (λ i. words_from rows k (h - k - (j + 1)) (add-one j i) (e i).zero ++ words_from rows k (h - k - (j + 1)) (add-one j i) (e i).one)
          ∙ ap (λ m. words_from rows k m j s) (sym deeper)

      -- the words of the zero half stored, then those of the one half behind them
      pub stored_halves : (place half : ℕ) (old middle new : List ℕ) → half ≡ 2 ^ (h - k - (j + 1))
          → middle ≡ sets old place (words_from rows k (h - k - (j + 1)) (j + 1) two.zero)
          → new ≡ sets middle (place + half) (words_from rows k (h - k - (j + 1)) (j + 1) two.one)
          → new ≡ sets old place (words_from rows k (h - k - j) j s)
      stored_halves place half old middle new size first second =
          let zeros : List ℕ = words_from rows k (h - k - (j + 1)) (j + 1) two.zero in
          let ones : List ℕ = words_from rows k (h - k - (j + 1)) (j + 1) two.one in
          let many : half ≡ length zeros = size ∙ sym (length-words (h - k - (j + 1)) (j + 1) two.zero) in
          second ∙ (λ i. sets (first i) (place + many i) ones) ∙ sym (sets_append old place zeros ones) ∙ ap (sets old place) words-halves
