-- The words of the root's blocks, with the range of a term, are the term's bitmap.
use Prim.Native.Nat.{ℕ, zero, suc, ◌+◌, ◌-◌, ◌*◌, ◌^◌, ◌≤◌, ◌<◌}
use native.Mathlib.Omega.{arith}
use native.Mathlib.Nat.{le_trans, pow-suc, two-pow-succ, mul-one, zero-mul, mul_left_comm, mul-suc}
use native.Mathlib.Numerals.{add-one}
use mathlib.Core.Path.{◌≡◌, sym, ap, ap₂, ◌∙◌}
use mathlib.Core.List.{List, [], ◌∷◌, ◌++◌, map}
use mathlib.Core.Bool.{Bool}
use lib.ListN.{length}
use lib.Dec.{ltb}
use Rattle.bits.specs.Sequences.{bit, occurrences, up_from, below}
use Rattle.bits.proofs.Tally.{up_from-append, map-append}
use Rattle.model.specs.Lists.{part, Within}
use Rattle.model.specs.Rows.{row}
use Rattle.model.specs.TopK.{node, count_in}
use Rattle.model.specs.Opening.{contents}
use Rattle.model.specs.Queries.{term_start}
use Rattle.model.proofs.Wavelet.Rank.{tally_leaf}
use Rattle.wavelet.specs.declared.Levels.{Levels}
use Rattle.wavelet.specs.declared.Halves.{Halves}
use Rattle.wavelet.specs.Levels.{entries_in, level_of}
use Rattle.wavelet.specs.Spans.{span, halves_of, span_of}
use Rattle.wavelet.proofs.Stored.{length-entries_in, within_entries_in}
use Rattle.wavelet.proofs.Spans.{span-root, span-halves, span-count}
use Rattle.archive.specs.declared.Layout.{Layout}
use Rattle.archive.specs.Layout.{Opened}
use Rattle.archive.proofs.Opened.{entries-are}
use Rattle.archive_ranges.proofs.TermEnds.{end_is, term_order}
use Rattle.bitmaps.specs.Words.{block_height, span_word, words_from}
use Rattle.bitmaps.specs.Bitmaps.{block_word, bitmap}
use Rattle.bitmaps.proofs.Blocks.{twice_over}

-- where the halves of the node q start, among blocks of 2 ^ k documents
zero-start : (k q : ℕ) → 2 ^ k * (2 * q) ≡ 2 ^ suc k * q
zero-start k q = mul_left_comm (2 ^ k) 2 q ∙ sym (twice_over k q)

one-start : (k q : ℕ) → 2 ^ k * (2 * q + 1) ≡ 2 ^ suc k * q + 2 ^ k
one-start k q = ap (λ n. 2 ^ k * n) (add-one (2 * q)) ∙ mul-suc (2 ^ k) (2 * q) ∙ ap (λ n. n + 2 ^ k) (zero-start k q)

-- the blocks of a node are those of its halves
blocks_node : (m q : ℕ) → up_from (2 * q * 2 ^ m) (2 ^ m) ++ up_from ((2 * q + 1) * 2 ^ m) (2 ^ m) ≡ up_from (q * 2 ^ suc m) (2 ^ suc m)
blocks_node m q =
    let first : 2 * q * 2 ^ m ≡ q * 2 ^ suc m = simp (pow-suc 2) (omega arith) in
    let next : (2 * q + 1) * 2 ^ m ≡ q * 2 ^ suc m + 2 ^ m = simp (pow-suc 2) (omega arith) in
    let width : 2 ^ m + 2 ^ m ≡ 2 ^ suc m = simp (pow-suc 2) (omega arith) in
    (λ i. up_from (first i) (2 ^ m) ++ up_from (next i) (2 ^ m)) ∙ sym (up_from-append (q * 2 ^ suc m) (2 ^ m) (2 ^ m))
    ∙ ap (up_from (q * 2 ^ suc m)) width

-- whether a range has an entry of a document
abbrev among : List ℕ → ℕ → Bool
among ys d = ltb 0 (occurrences d ys)

module _ (h : ℕ) (xs : List ℕ) (w : Within (2 ^ h) xs) (a b : ℕ) (ab : a ≤ b) (bn : b ≤ length xs) where
  abbrev rows : ℕ → List ℕ
  rows j = row h j xs

  halves : (j q : ℕ) → j < h → q < 2 ^ j → {A : Type 0} (f : Halves → A) → f (halves_of (rows j) (span_of h xs a b j q))
      ≡ f (record { zero = span_of h xs a b (suc j) (2 * q); one = span_of h xs a b (suc j) (2 * q + 1) })
  halves j q l m f = ap f (span-halves h xs a b w (le_trans ab bn) bn j q l m)

  -- the word of the node q of level j is that of the documents under it
  word_documents : (k j q : ℕ) → j + k ≡ h → q < 2 ^ j → span_word rows k j (span_of h xs a b j q) ≡ block_word (among (part a b xs)) k (2 ^ k * q)
  word_documents zero j q e l =
      let f : j ≡ h = omega arith in
      let first : q ≡ 1 * q = omega arith in
      ap (λ n. bit (ltb 0 n))
      (span-count h xs a b j q ab ∙ ap (λ k. count_in (part a b xs) (node (h - k) q)) f ∙ tally_leaf h q (part a b xs) ∙ ap (λ d. occurrences d (part a b xs)) first)
  word_documents (suc k) j q e l =
      halves j q (omega arith) l (λ two. span_word rows k (suc j) two.zero + 2 ^ (2 ^ k) * span_word rows k (suc j) two.one)
      ∙ ap₂ (λ x y. x + 2 ^ (2 ^ k) * y)
      (word_documents k (suc j) (2 * q) (omega arith) (rw (two-pow-succ j) (omega arith)) ∙ ap (block_word (among (part a b xs)) k) (zero-start k q))
      (word_documents k (suc j) (2 * q + 1) (omega arith) (rw (two-pow-succ j) (omega arith)) ∙ ap (block_word (among (part a b xs)) k) (one-start k q))

  -- the words of the blocks under it are those of their documents
  words-documents : (k m j q : ℕ) → j + m + k ≡ h → q < 2 ^ j
      → words_from rows k m j (span_of h xs a b j q) ≡ map (λ c. block_word (among (part a b xs)) k (2 ^ k * c)) (up_from (q * 2 ^ m) (2 ^ m))
  words-documents k zero j q e l =
      ap (λ w. w ∷ []) (word_documents k j q (omega arith) l ∙ ap (λ c. block_word (among (part a b xs)) k (2 ^ k * c)) (sym (mul-one q)))
  words-documents k (suc m) j q e l =
      halves j q (omega arith) l (λ two. words_from rows k m (suc j) two.zero ++ words_from rows k m (suc j) two.one)
      ∙ (λ i. words-documents k m (suc j) (2 * q) (omega arith) (rw (two-pow-succ j) (omega arith)) i
      ++ words-documents k m (suc j) (2 * q + 1) (omega arith) (rw (two-pow-succ j) (omega arith)) i)
      ∙ sym (map-append f (up_from (2 * q * 2 ^ m) (2 ^ m)) (up_from ((2 * q + 1) * 2 ^ m) (2 ^ m))) ∙ ap (map f) (blocks_node m q)
    where
      f : ℕ → ℕ
      f c = block_word (among (part a b xs)) k (2 ^ k * c)

-- the root: the blocks of all documents
words-root : (bytes : List ℕ) (t : Levels) (a b k : ℕ) → a ≤ b → b ≤ t.entries → k ≤ t.height
    → words_from (level_of bytes t) k (t.height - k - 0) 0 (span 0 a b t.entries)
    ≡ map (λ c. block_word (among (part a b (entries_in bytes t))) k (2 ^ k * c)) (below (2 ^ (t.height - k)))
words-root bytes t a b k ab bl kh =
    let h : ℕ = t.height in
    let xs : List ℕ = entries_in bytes t in
    let n = length-entries_in bytes t in
    let m : h - k - 0 ≡ h - k = omega arith in
    (λ i. words_from (level_of bytes t) k (m i) 0 (span 0 a b (sym n i)))
    ∙ ap (words_from (level_of bytes t) k (h - k) 0) (sym (span-root h xs a b (within_entries_in bytes t) (omega arith) (omega arith)))
    ∙ words-documents h xs (within_entries_in bytes t) a b ab (omega arith) k (h - k) 0 0 (omega arith) (omega arith)
    ∙ ap (λ s. map (λ c. block_word (among (part a b xs)) k (2 ^ k * c)) (up_from s (2 ^ (h - k)))) (zero-mul (2 ^ (h - k)))

-- ---- of an opened archive

pub words_term : (bytes : List ℕ) (l : Layout) → Opened bytes l → (term a b : ℕ) → a ≡ term_start (contents bytes) term
    → b ≡ term_start (contents bytes) (term + 1) → b ≤ l.levels.entries
    → words_from (level_of bytes l.levels) (block_height l.levels.height) (l.levels.height - block_height l.levels.height - 0) 0 (span 0 a b l.levels.entries)
    ≡ bitmap (contents bytes) l.levels.height term
words_term bytes l o term a b from to inside =
    let h = l.levels.height in
    let k = block_height h in
    let end = end_is (contents bytes) term a b from to in
    words-root bytes l.levels a b k (term_order (contents bytes) term a b from to) inside (omega arith)
    ∙ (λ i. map (λ c. block_word (among (part (from i) (end i) (entries-are bytes l o i))) k (2 ^ k * c)) (below (2 ^ (h - k))))
