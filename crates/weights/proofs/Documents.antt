-- The walk that counts documents: at most one for each entry, at least one where there are entries, and each document of the range once.
use Prim.Native.Nat.{ℕ, zero, suc, ◌+◌, ◌-◌, ◌*◌, ◌^◌, ◌≤◌, ◌<◌}
use native.Mathlib.Numerals.{add-one}
use native.Mathlib.Omega.{arith}
use native.Mathlib.Nat.{pow-suc, le_refl, le_trans, zero-mul, mul-one}
use mathlib.Core.Path.{◌≡◌, sym, ap, ap₂, ◌∙◌, subst}
use mathlib.Core.Logic.{◌⊎◌, inl, inr}
use mathlib.Core.List.{List}
use mathlib.Core.Bool.{Bool, true, false}
use lib.ListN.{length}
use lib.Dec.{ltb}
use mir.Val.{bool_byte}
use borrow.Author.Tests.{ltb-true, ltb-false}
use Rattle.bits.specs.Sequences.{bit, tally, up_from, occurrences, rank}
use Rattle.bits.proofs.Tests.{look}
use Rattle.bits.proofs.Tally.{tally-append, up_from-append}
use Rattle.model.specs.Lists.{part, Within}
use Rattle.model.specs.TopK.{node, count_in}
use Rattle.model.specs.Rows.{row}
use Rattle.model.specs.Weighted.{documents_in}
use Rattle.model.proofs.Greedy.Counts.{count_leaf}
use Rattle.model.proofs.Wavelet.Counts.{ones_step}
use Rattle.wavelet.specs.declared.Levels.{Levels}
use Rattle.wavelet.specs.declared.Span.{Span}
use Rattle.wavelet.specs.declared.Halves.{Halves}
use Rattle.wavelet.specs.Levels.{entries_in, level_of}
use Rattle.wavelet.specs.Spans.{Ordered, halves_of, span, span_of}
use Rattle.wavelet.proofs.Stored.{length-entries_in, within_entries_in}
use Rattle.wavelet.proofs.Steps.{Level, level-of, ordered-zero, ordered-one, zero-count, one-count}
use Rattle.wavelet.proofs.Spans.{span-root, span-halves, span-count}
use Rattle.weights.specs.Documents.{distinct_from, of_two}
use Rattle.weights.proofs.LastRow.{byte_some}

-- ---- of any rows

-- the one half, as the code has it: from where the zero half ends
abbrev pub beside : Halves → Span
beside two = span two.zero.end two.one.lo two.one.hi two.one.end

-- every entry of the range is in one of the halves
halves-count : (bits : List ℕ) (n : ℕ) → Level n bits → (s : Span) → Ordered n s
    → ((halves_of bits s).zero.hi - (halves_of bits s).zero.lo) + ((halves_of bits s).one.hi - (halves_of bits s).one.lo) ≡ s.hi - s.lo
halves-count bits n v s o =
    go ((halves_of bits s).zero.hi - (halves_of bits s).zero.lo) ((halves_of bits s).one.hi - (halves_of bits s).one.lo) (rank 1 bits s.hi - rank 1 bits s.lo)
    (s.hi - s.lo) (zero-count bits n v s o) (one-count bits n v s o) (ones_step bits s.lo s.hi o.range)
  where
    go : (x y r c : ℕ) → x ≡ c - r → y ≡ r → r ≤ c → x + y ≡ c
    go x y r c p q l = omega arith

-- both halves are in order, the second from where the first ends
pub ordered-two : (bits : List ℕ) (n : ℕ) → Level n bits → (s : Span) → Ordered n s → (two : Halves) → two ≡ halves_of bits s → Ordered n two.zero × Ordered n (beside two)
ordered-two bits n v s o two e =
    subst (λ (w : Halves). Ordered n w.zero × Ordered n (beside w)) (sym e) (ordered-zero bits n v s o, ordered-one bits n v s o)

bit_some : (c : ℕ) → (bit (ltb 0 c) ≤ c) × (0 < c → 0 < bit (ltb 0 c))
bit_some c = go (look (ltb 0 c))
  where
    go : (ltb 0 c ≡ true) ⊎ (ltb 0 c ≡ false) → (bit (ltb 0 c) ≤ c) × (0 < c → 0 < bit (ltb 0 c))
    go (inl t) = let l = ltb-true 0 c t in (rw t (omega arith), λ p. rw t (omega arith))
    go (inr f) = let l = ltb-false 0 c f in (rw f (omega arith), λ p. absurd (omega arith))

module _ (rows : ℕ → List ℕ) (e h : ℕ) (levels : (i : ℕ) → i < h → Level e (rows i)) where
  -- n more rows, the next of them row j
  pub distinct_le : (n j : ℕ) → j + n ≤ h → (s : Span) → Ordered e s → distinct_from rows n j s ≤ s.hi - s.lo
  distinct_le zero j m s o = (bit_some (s.hi - s.lo)).0
  distinct_le (suc n) j m s o =
      let v = levels j (omega arith) in
      omega (
        arith,
        halves-count (rows j) e v s o,
        distinct_le n (suc j) (omega arith) (halves_of (rows j) s).zero (ordered-zero (rows j) e v s o),
        distinct_le n (suc j) (omega arith) (halves_of (rows j) s).one (ordered-one (rows j) e v s o),
      )

  pub distinct_some : (n j : ℕ) → j + n ≤ h → (s : Span) → Ordered e s → 0 < s.hi - s.lo → 0 < distinct_from rows n j s
  distinct_some zero j m s o p = (bit_some (s.hi - s.lo)).1 p
  distinct_some (suc n) j m s o p =
      go (look (ltb 0 (low.hi - low.lo))) (distinct_some n (suc j) (omega arith) low (ordered-zero (rows j) e v s o))
      (distinct_some n (suc j) (omega arith) high (ordered-one (rows j) e v s o))
    where
      v : Level e (rows j)
      v = levels j (omega arith)

      low : Span
      low = (halves_of (rows j) s).zero

      high : Span
      high = (halves_of (rows j) s).one

      go : (ltb 0 (low.hi - low.lo) ≡ true) ⊎ (ltb 0 (low.hi - low.lo) ≡ false)
          → (0 < low.hi - low.lo → 0 < distinct_from rows n (suc j) low) → (0 < high.hi - high.lo → 0 < distinct_from rows n (suc j) high)
          → 0 < distinct_from rows n (suc j) low + distinct_from rows n (suc j) high
      go (inl t) a b = let x = a (ltb-true 0 (low.hi - low.lo) t) in omega arith
      go (inr f) a b =
          let z = ltb-false 0 (low.hi - low.lo) f in
          let x = b (omega (arith, halves-count (rows j) e v s o)) in
          omega arith

  -- a range of one entry has one document, an empty one none
  pub distinct-one : (n j : ℕ) → j + n ≤ h → (s : Span) → Ordered e s → s.hi - s.lo < 2 → s.hi - s.lo ≡ distinct_from rows n j s
  distinct-one n j m s o l = go (look (ltb 0 (s.hi - s.lo)))
    where
      go : (ltb 0 (s.hi - s.lo) ≡ true) ⊎ (ltb 0 (s.hi - s.lo) ≡ false) → s.hi - s.lo ≡ distinct_from rows n j s
      go (inl t) = omega (arith, distinct_le n j m s o, distinct_some n j m s o (ltb-true 0 (s.hi - s.lo) t))
      go (inr f) = omega (arith, distinct_le n j m s o, ltb-false 0 (s.hi - s.lo) f)

-- ---- as the code goes about it

module _ (rows : ℕ → List ℕ) (e h : ℕ) (levels : (i : ℕ) → i < h → Level e (rows i)) (j : ℕ) (s : Span) (o : Ordered e s) where
  pub documents_few : j < h → s.hi - s.lo < 2 → (s.hi - s.lo ≡ distinct_from rows (h - j) j s) × (s.hi - s.lo ≤ s.hi - s.lo)
  documents_few m l = (distinct-one rows e h levels (h - j) j (omega arith) s o l, omega arith)

  pub documents-last : j + 1 ≡ h → (x : ℕ) → (x ≡ of_two (rows j) s.lo s.hi) × (x ≤ s.hi - s.lo)
      → (x ≡ distinct_from rows (h - j) j s) × (x ≤ s.hi - s.lo)
  documents-last l x a =
      let d : h - j ≡ suc zero = omega arith in
      let v = levels j (omega arith) in (
        a.0
            ∙ ap₂ (λ (m n : ℕ). bit (ltb 0 m) + bit (ltb 0 n)) (sym (zero-count (rows j) e v s o)) (sym (one-count (rows j) e v s o))
            ∙ ap (λ (n : ℕ). distinct_from rows n j s) (sym d),
        a.1,
      )

  pub documents-halves : j < h → (two : Halves) → two ≡ halves_of (rows j) s → (x : ℕ)
      → (x ≡ distinct_from rows (h - (j + 1)) (j + 1) two.zero + distinct_from rows (h - (j + 1)) (j + 1) (beside two))
      × (x ≤ (two.zero.hi - two.zero.lo) + (two.one.hi - two.one.lo))
      → (x ≡ distinct_from rows (h - j) j s) × (x ≤ s.hi - s.lo)
  documents-halves l two t x a =
      let d : h - j ≡ suc (h - (j + 1)) = omega arith in
      let c : (two.zero.hi - two.zero.lo) + (two.one.hi - two.one.lo) ≡ s.hi - s.lo =
      subst (λ (w : Halves). (w.zero.hi - w.zero.lo) + (w.one.hi - w.one.lo) ≡ s.hi - s.lo) (sym t) (halves-count (rows j) e (levels j l) s o) in (
        a.0
            ∙ ap (λ (i : ℕ). distinct_from rows (h - (j + 1)) i two.zero + distinct_from rows (h - (j + 1)) i (beside two)) (add-one j)
            ∙ ap (λ (w : Halves). distinct_from rows (h - (j + 1)) (suc j) w.zero + distinct_from rows (h - (j + 1)) (suc j) (beside w)) t
            ∙ ap (λ (n : ℕ). distinct_from rows n j s) (sym d),
        omega (arith, a.1),
      )

-- two nodes beside each other
pub both : {x y a b p q : ℕ} → (x ≡ a) × (x ≤ p) → (y ≡ b) × (y ≤ q) → (x + y ≡ a + b) × (x + y ≤ p + q)
both f g = (ap₂ (λ (m n : ℕ). m + n) f.0 g.0, omega (arith, f.1, g.1))

-- ---- of a list of entries

module _ (h : ℕ) (xs : List ℕ) (w : Within (2 ^ h) xs) (a b : ℕ) (order : a ≤ b) (inside : b ≤ length xs) where
  abbrev found : ℕ → Bool
  found d = ltb 0 (occurrences d (part a b xs))

  -- under a node: its documents that the range has
  pub distinct-under : (n j q : ℕ) → j + n ≡ h → q < 2 ^ j → distinct_from (λ i. row h i xs) n j (span_of h xs a b j q) ≡ tally found (up_from (q * 2 ^ n) (2 ^ n))
  distinct-under zero j q e l =
      let z : h - j ≡ 0 = omega arith in
      let c : (span_of h xs a b j q).hi - (span_of h xs a b j q).lo ≡ occurrences q (part a b xs) =
      span-count h xs a b j q order ∙ ap (λ (k : ℕ). count_in (part a b xs) (node k q)) z ∙ count_leaf (part a b xs) q in
      let one : tally found (up_from q 1) ≡ bit (found q) = omega arith in
      ap (λ (k : ℕ). bit (ltb 0 k)) c ∙ sym one ∙ ap (λ (k : ℕ). tally found (up_from k 1)) (sym (mul-one q))
  distinct-under (suc n) j q e l =
      let two = span-halves h xs a b w (le_trans order inside) inside j q (omega arith) l in
      let width : 2 ^ suc n ≡ 2 ^ n + 2 ^ n = simp (pow-suc 2) (omega arith) in
      let wide : 2 ^ suc j ≡ 2 ^ j + 2 ^ j = simp (pow-suc 2) (omega arith) in
      let first : q * 2 ^ suc n ≡ 2 * q * 2 ^ n = simp (pow-suc 2) (omega arith) in
      let next : 2 * q * 2 ^ n + 2 ^ n ≡ (2 * q + 1) * 2 ^ n = omega arith in
      ap₂ (λ (x y : Span). distinct_from (λ i. row h i xs) n (suc j) x + distinct_from (λ i. row h i xs) n (suc j) y) (ap (λ (t : Halves). t.zero) two) (ap (λ (t : Halves). t.one) two)
      ∙ ap₂ (λ (x y : ℕ). x + y) (distinct-under n (suc j) (2 * q) (omega arith) (omega arith)) (distinct-under n (suc j) (2 * q + 1) (omega arith) (omega arith))
      ∙ ap (λ (k : ℕ). tally found (up_from (2 * q * 2 ^ n) (2 ^ n)) + tally found (up_from k (2 ^ n))) (sym next)
      ∙ sym (tally-append found (up_from (2 * q * 2 ^ n) (2 ^ n)) (up_from (2 * q * 2 ^ n + 2 ^ n) (2 ^ n)))
      ∙ ap (tally found) (sym (up_from-append (2 * q * 2 ^ n) (2 ^ n) (2 ^ n)))
      ∙ ap₂ (λ (s m : ℕ). tally found (up_from s m)) (sym first) (sym width)

-- under the root: all of them
module _ (bytes : List ℕ) (t : Levels) (a b : ℕ) (order : a ≤ b) (fits : b ≤ t.entries) where
  distinct-root : distinct_from (level_of bytes t) (t.height - 0) 0 (span 0 a b t.entries) ≡ documents_in (2 ^ t.height) (part a b (entries_in bytes t))
  distinct-root =
      let h : ℕ = t.height in
      let xs : List ℕ = entries_in bytes t in
      let n = length-entries_in bytes t in
      let s : span_of h xs a b 0 0 ≡ span 0 a b t.entries =
      span-root h xs a b (within_entries_in bytes t) (omega arith) (omega arith) ∙ ap (λ (e : ℕ). span 0 a b e) n in
      let z : h - 0 ≡ h = omega arith in
      ap₂ (λ (k : ℕ) (x : Span). distinct_from (level_of bytes t) k 0 x) z (sym s)
      ∙ distinct-under h xs (within_entries_in bytes t) a b order (omega arith) h 0 0 (omega arith) (omega arith)
      ∙ ap (λ (k : ℕ). tally (λ d. ltb 0 (occurrences d (part a b xs))) (up_from k (2 ^ h))) (zero-mul (2 ^ h))

  -- without levels
  pub distinct_bare : t.height ≡ 0 → bool_byte (ltb a b) ≡ documents_in (2 ^ t.height) (part a b (entries_in bytes t))
  distinct_bare e =
      let z : t.height - 0 ≡ zero = omega arith in
      byte_some a b ∙ ap (λ (k : ℕ). distinct_from (level_of bytes t) k 0 (span 0 a b t.entries)) (sym z) ∙ distinct-root

  -- with an empty node behind it
  pub distinct-whole : (x : ℕ) → x ≡ distinct_from (level_of bytes t) (t.height - 0) 0 (span 0 a b t.entries)
      + distinct_from (level_of bytes t) (t.height - 0) 0 (span t.entries t.entries t.entries t.entries)
      → x ≡ documents_in (2 ^ t.height) (part a b (entries_in bytes t))
  distinct-whole x e =
      let n : ℕ = t.entries in
      let o : Ordered n (span n n n n) = record { from = le_refl n; range = le_refl n; to = le_refl n; inside = le_refl n } in
      omega (arith, distinct_le (level_of bytes t) n t.height (level-of bytes t) (t.height - 0) 0 (omega arith) (span n n n n) o, distinct-root)
