-- The listing by a descent: a node's documents are those of its halves, and the root's are those of the range.
use Prim.Native.Nat.{ℕ, zero, suc, ◌+◌, ◌-◌, ◌*◌, ◌^◌, ◌≤◌, ◌<◌}
use native.Mathlib.Omega.{arith}
use native.Mathlib.Nat.{le_trans, sub-zero, zero-add, two-pow-succ, pow-suc, mul-one, zero-mul}
use mathlib.Core.Path.{◌≡◌, sym, ap, ◌∙◌}
use mathlib.Core.List.{List, [], ◌∷◌, ◌++◌, map, append-nil}
use lib.ListN.{length, length-append, length-map}
use mathlib.Core.Bool.{false}
use lib.Dec.{ltb}
use native.Mathlib.Decide.{dec_le}
use borrow.Author.Tests.{lt-ltb, le-ltb}
use native.Mathlib.Numerals.{add-one}
use Rattle.bits.specs.Sequences.{occurrences, up_from, below}
use Rattle.bits.proofs.Tally.{tally_le_length, up_from-append, length-up_from, map-append}
use Rattle.model.specs.Lists.{keep, part, Within}
use Rattle.model.specs.Rows.{row}
use Rattle.model.specs.TopK.{node, count_in}
use Rattle.model.specs.Opening.{contents}
use Rattle.model.specs.Queries.{Pair, pair_of, present, listing, Range, bounds_of, list_result}
use Rattle.model.proofs.Lists.{keep_append, keep-map, length-keep}
use Rattle.answers.proofs.Occurrences.{keep_none, occurs_lt}
use Rattle.model.proofs.Wavelet.Rank.{tally_leaf}
use Rattle.wavelet.specs.declared.Levels.{Levels}
use Rattle.wavelet.specs.declared.Span.{Span}
use Rattle.wavelet.specs.declared.Halves.{Halves}
use Rattle.wavelet.specs.Levels.{entries_in, level_of}
use Rattle.wavelet.specs.Spans.{halves_of, span_of}
use Rattle.wavelet.proofs.Stored.{length-entries_in, within_entries_in}
use Rattle.wavelet.proofs.Spans.{span-root, span-halves, span-count}
use Rattle.archive.specs.declared.Layout.{Layout}
use Rattle.archive.specs.Layout.{Opened}
use Rattle.listing.specs.Listing.{list_of, pairs_from, pairs_under}

-- ---- one step of the descent

-- a node without entries of the range
pub pairs-empty : (rows : ℕ → List ℕ) (m j q : ℕ) (s : Span) → s.lo ≡ s.hi → pairs_from rows m j q s ≡ []
pairs-empty rows zero j q s e =
    let z : s.hi - s.lo ≡ 0 = omega arith in
    ap (λ (c : ℕ). keep present (record { document = q; count = c } ∷ [])) z
pairs-empty rows (suc m) j q s e =
    let two : Halves = halves_of (rows j) s in
    (λ i. pairs-empty rows m (suc j) (2 * q) two.zero (ap (λ (p : ℕ). (halves_of (rows j) (record { start = s.start; lo = p; hi = p; end = s.end })).zero.lo) e) i
    ++ pairs-empty rows m (suc j) (2 * q + 1) two.one (ap (λ (p : ℕ). (halves_of (rows j) (record { start = s.start; lo = p; hi = p; end = s.end })).one.lo) e) i)

module _ (bytes : List ℕ) (t : Levels) (j q : ℕ) (s : Span) where
  -- a leaf with entries of the range
  pub pairs_leaf : j ≡ t.height → s.lo < s.hi → pairs_under bytes t j q s ≡ record { document = q; count = s.hi - s.lo } ∷ []
  pairs_leaf e l =
      let z : t.height - j ≡ 0 = omega arith in
      ap (λ (m : ℕ). pairs_from (level_of bytes t) m j q s) z ∙ rw (lt-ltb 0 (s.hi - s.lo) (omega arith))

  -- a node above the leaves
  module _ (two : Halves) (e : two ≡ halves_of (level_of bytes t j) s) (l : j < t.height) where
    pub pairs-halves : pairs_under bytes t (j + 1) (2 * q) two.zero ++ pairs_under bytes t (j + 1) (2 * q + 1) two.one ≡ pairs_under bytes t j q s
    pairs-halves =
        let rows : suc (t.height - suc j) ≡ t.height - j = omega arith in
        rw (e, add-one) (ap (λ (m : ℕ). pairs_from (level_of bytes t) m j q s) rows)

    pub pairs-count : length (pairs_under bytes t j q s)
        ≡ length (pairs_under bytes t (j + 1) (2 * q) two.zero) + length (pairs_under bytes t (j + 1) (2 * q + 1) two.one)
    pairs-count =
        ap length (sym pairs-halves) ∙ length-append (pairs_under bytes t (j + 1) (2 * q) two.zero) (pairs_under bytes t (j + 1) (2 * q + 1) two.one)

-- ---- what the descent lists

-- the numbers of a node are those of its halves
numbers_node : (m q : ℕ) → up_from (2 * q * 2 ^ m) (2 ^ m) ++ up_from ((2 * q + 1) * 2 ^ m) (2 ^ m) ≡ up_from (q * 2 ^ suc m) (2 ^ suc m)
numbers_node m q =
    let first : 2 * q * 2 ^ m ≡ q * 2 ^ suc m = simp (pow-suc 2) (omega arith) in
    let next : (2 * q + 1) * 2 ^ m ≡ q * 2 ^ suc m + 2 ^ m = simp (pow-suc 2) (omega arith) in
    let width : 2 ^ m + 2 ^ m ≡ 2 ^ suc m = simp (pow-suc 2) (omega arith) in
    (λ i. up_from (first i) (2 ^ m) ++ up_from (next i) (2 ^ m)) ∙ sym (up_from-append (q * 2 ^ suc m) (2 ^ m) (2 ^ m))
    ∙ ap (up_from (q * 2 ^ suc m)) width

module _ (h : ℕ) (xs : List ℕ) (w : Within (2 ^ h) xs) (a b : ℕ) (ab : a ≤ b) (bn : b ≤ length xs) where
  -- the numbers of the node q, m rows above the leaves, that occur in the range
  pub pairs_node : (m j q : ℕ) → j + m ≡ h → q < 2 ^ j
      → pairs_from (λ j. row h j xs) m j q (span_of h xs a b j q) ≡ keep present (map (pair_of (part a b xs)) (up_from (q * 2 ^ m) (2 ^ m)))
  pairs_node zero j q e l =
      let f : j ≡ h = omega arith in
      let c : (span_of h xs a b j q).hi - (span_of h xs a b j q).lo ≡ occurrences q (part a b xs) =
      span-count h xs a b j q ab ∙ ap (λ (k : ℕ). count_in (part a b xs) (node (h - k) q)) f ∙ tally_leaf h q (part a b xs) in
      ap (λ (n : ℕ). keep present (record { document = q; count = n } ∷ [])) c
      ∙ ap (λ (d : ℕ). keep present (pair_of (part a b xs) d ∷ [])) (sym (mul-one q))
  pairs_node (suc m) j q e l =
      ap (λ (two : Halves). pairs_from (λ j. row h j xs) m (suc j) (2 * q) two.zero ++ pairs_from (λ j. row h j xs) m (suc j) (2 * q + 1) two.one)
      (span-halves h xs a b w (le_trans ab bn) bn j q (omega arith) l)
      ∙ (λ i. pairs_node m (suc j) (2 * q) (omega arith) (rw (two-pow-succ j) (omega arith)) i ++ pairs_node m (suc j) (2 * q + 1) (omega arith) (rw (two-pow-succ j) (omega arith)) i)
      ∙ sym (keep_append present (map f (up_from (2 * q * 2 ^ m) (2 ^ m))) (map f (up_from ((2 * q + 1) * 2 ^ m) (2 ^ m))))
      ∙ ap (keep present) (sym (map-append f (up_from (2 * q * 2 ^ m) (2 ^ m)) (up_from ((2 * q + 1) * 2 ^ m) (2 ^ m))) ∙ ap (map f) (numbers_node m q))
    where
      f : ℕ → Pair
      f = pair_of (part a b xs)

-- the root: all documents of the range
pub pairs-root : (bytes : List ℕ) (t : Levels) (a b : ℕ) → a ≤ b → b ≤ t.entries
    → pairs_under bytes t 0 0 (record { start = 0; lo = a; hi = b; end = t.entries }) ≡ listing (2 ^ t.height) (part a b (entries_in bytes t))
pairs-root bytes t a b ab bl =
    let h : ℕ = t.height in
    let xs : List ℕ = entries_in bytes t in
    let n = length-entries_in bytes t in
    (λ i. pairs_from (level_of bytes t) (sub-zero h i) 0 0 (record { start = 0; lo = a; hi = b; end = sym n i }))
    ∙ ap (pairs_from (level_of bytes t) h 0 0) (sym (span-root h xs a b (within_entries_in bytes t) (omega arith) (omega arith)))
    ∙ pairs_node h xs (within_entries_in bytes t) a b ab (omega arith) h 0 0 (zero-add h) (omega arith)
    ∙ ap (λ (s : ℕ). keep present (map (pair_of (part a b xs)) (up_from s (2 ^ h)))) (zero-mul (2 ^ h))

-- ---- the listing of documents below N

-- numbers that do not occur are not listed
pub listing_within : (N M : ℕ) (ys : List ℕ) → Within N ys → N ≤ M → listing M ys ≡ listing N ys
listing_within N M ys w l =
    let e : N + (M - N) ≡ M = omega arith in
    ap (λ (m : ℕ). listing m ys) (sym e)
    ∙ ap (λ (ds : List ℕ). keep present (map (pair_of ys) ds)) (up_from-append 0 N (M - N) ∙ ap (λ (s : ℕ). below N ++ up_from s (M - N)) (zero-add N))
    ∙ ap (keep present) (map-append (pair_of ys) (below N) (up_from N (M - N))) ∙ keep_append present (map (pair_of ys) (below N)) (map (pair_of ys) (up_from N (M - N)))
    ∙ ap (λ (ps : List Pair). listing N ys ++ ps) none ∙ append-nil (listing N ys)
  where
    absent : (d : ℕ) → N ≤ d → Dec (occurrences d ys ≤ 0) → ltb 0 (occurrences d ys) ≡ false
    absent d a (yes z) = le-ltb 0 (occurrences d ys) z
    absent d a (no z) = absurd (omega (arith, occurs_lt N d ys w (omega arith)))

    none : keep present (map (pair_of ys) (up_from N (M - N))) ≡ []
    none =
        keep-map present (pair_of ys) (up_from N (M - N))
        ∙ ap (map (pair_of ys)) (keep_none (λ d. ltb 0 (occurrences d ys)) N (M - N) (λ d a b. absent d a (dec_le (occurrences d ys) 0)))

pub listing_le : (N : ℕ) (ys : List ℕ) → length (listing N ys) ≤ N
listing_le N ys =
    omega (
      arith,
      length-keep present (map (pair_of ys) (below N)),
      tally_le_length present (map (pair_of ys) (below N)),
      length-map (below N) (pair_of ys),
      length-up_from 0 N,
    )

-- of an opened archive
pub list_is : (bytes : List ℕ) (l : Layout) → Opened bytes l → (range : Range) (answers : List ℕ)
    → list_of (contents bytes) (bounds_of (contents bytes) range) answers ≡ list_result bytes range answers
list_is bytes l o range answers = rw o.accepted
