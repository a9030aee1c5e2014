-- The steps to the first entry of a value in a range: by one row, and that the walk finds its place.
use Prim.Native.Nat.{ℕ, zero, suc, ◌+◌, ◌-◌, ◌/◌, ◌%◌, ◌^◌, ◌≤◌, ◌<◌}
use native.Mathlib.Nat.{le_refl, le_trans, sub-zero, zero-add}
use native.Mathlib.Decide.{dec_le}
use native.Mathlib.Numerals.{add-one}
use native.Mathlib.Omega.{arith}
use mathlib.Core.Path.{◌≡◌, refl, sym, ap, ◌∙◌, subst}
use mathlib.Core.List.{List}
use mathlib.Core.Bool.{Bool, true, false}
use lib.Dec.{eqb}
use Rattle.bits.specs.Sequences.{occurrences, rank, select}
use Rattle.bits.proofs.Tally.{tally-take_le}
use Rattle.model.specs.Lists.{part}
use Rattle.model.specs.Queries.{first_place}
use Rattle.model.specs.Walk.{left, right, rank_from, select_from}
use Rattle.model.proofs.Lists.{tally-part}
use Rattle.model.proofs.FirstPlaces.{first-place-select}
use Rattle.model.proofs.Wavelet.Counts.{ones_mono, ones_step, left_le_right}
use Rattle.model.proofs.Wavelet.Rank.{rank_walk_lem}
use Rattle.model.proofs.Wavelet.Rows.{rows_of}
use Rattle.model.proofs.Wavelet.Select.{select_walk_lem}
use Rattle.wavelet.specs.declared.Levels.{Levels}
use Rattle.wavelet.specs.declared.tree.Tree.{Tree}
use Rattle.wavelet.specs.declared.Span.{Span}
use Rattle.wavelet.specs.declared.Halves.{Halves}
use Rattle.wavelet.specs.declared.Ranked.{Ranked}
use Rattle.wavelet.specs.Levels.{entries_in, level_of}
use Rattle.wavelet.specs.Spans.{span, Ordered, halves_of, half_of, ranked_of, span_in}
use Rattle.wavelet.proofs.Stored.{length-entries_in, within_entries_in}
use Rattle.wavelet.proofs.Steps.{Level, level-of, rank_le, middle_by_ones, by_ones, halves_by_ones, ordered_half_of}
use Rattle.wavelet_select.specs.Places.{up_from_half}
use Rattle.wavelet_select.specs.First.{leaf_from, Has, first_from}
use Rattle.wavelet_select.proofs.Offsets.{le_antisym, sums, same_place, half_le, up_after, up_inside, up_alone, ranked_span}

-- ---- the walk: m more rows of an archive, the next of them row j

module _ (bytes : List ℕ) (t : Levels) (d : ℕ) where
  abbrev rows : ℕ → List ℕ
  rows = level_of bytes t

  -- a leaf has these places by the ranks of the range's ends in a node above it
  abbrev ByRanks : ℕ → ℕ → Span → Span → Type 0
  ByRanks m j s leaf =
      (leaf.lo ≡ leaf.start + rank_from rows d m j s.start s.lo s.end)
      × (leaf.hi ≡ leaf.start + rank_from rows d m j s.start s.hi s.end)

  -- the half that the bit leads to, by the ones of the level
  half_one : (m j : ℕ) (l : j < t.height) (s : Span) → Ordered t.entries s → eqb (d / 2 ^ m % 2) 1 ≡ true
      → half_of (halves_of (rows j) s) (d / 2 ^ m % 2) ≡ (by_ones (rows j) s).one
  half_one m j l s o f = rw f (ap (λ (two : Halves). two.one) (halves_by_ones (rows j) t.entries (level-of bytes t j l) s o))

  half_zero : (m j : ℕ) (l : j < t.height) (s : Span) → Ordered t.entries s → eqb (d / 2 ^ m % 2) 1 ≡ false
      → half_of (halves_of (rows j) s) (d / 2 ^ m % 2) ≡ (by_ones (rows j) s).zero
  half_zero m j l s o f = rw f (ap (λ (two : Halves). two.zero) (halves_by_ones (rows j) t.entries (level-of bytes t j l) s o))

  leaf_ranks : (m j : ℕ) → m + j ≡ t.height → (s : Span) → Ordered t.entries s → ByRanks m j s (leaf_from rows d m j s)
  leaf_ranks zero j e s o = (omega (arith, o.from), omega (arith, o.from, o.range))
  leaf_ranks (suc m) j e s o =
      go (eqb (d / 2 ^ m % 2) 1) refl (leaf_from rows d (suc m) j s)
      (leaf_ranks m (suc j) (omega arith) (half_of (halves_of (rows j) s) (d / 2 ^ m % 2))
      (ordered_half_of (rows j) t.entries (level-of bytes t j (omega arith)) s o (d / 2 ^ m % 2)))
    where
      go : (b : Bool) → eqb (d / 2 ^ m % 2) 1 ≡ b → (leaf : Span) → ByRanks m (suc j) (half_of (halves_of (rows j) s) (d / 2 ^ m % 2)) leaf → ByRanks (suc m) j s leaf
      go true f leaf half = rw f (subst (λ (x : Span). ByRanks m (suc j) x leaf) (half_one m j (omega arith) s o f) half)
      go false f leaf half = rw f (subst (λ (x : Span). ByRanks m (suc j) x leaf) (half_zero m j (omega arith) s o f) half)

  -- behind the range's first place stands the entry with as many before it as there are before the range
  first-from : (m j : ℕ) → m + j ≡ t.height → (s : Span) → Ordered t.entries s
      → s.lo + first_from rows d m j s ≡ s.start + select_from rows d m j s.start s.end (rank_from rows d m j s.start s.lo s.end)
  first-from zero j e s o = omega (arith, o.from)
  first-from (suc m) j e s o =
      go (eqb (d / 2 ^ m % 2) 1) refl (first_from rows d m (suc j) (half_of (halves_of (rows j) s) (d / 2 ^ m % 2)))
      (first-from m (suc j) (omega arith) (half_of (halves_of (rows j) s) (d / 2 ^ m % 2))
      (ordered_half_of (rows j) t.entries (level-of bytes t j (omega arith)) s o (d / 2 ^ m % 2)))
    where
      Comes : Span → ℕ → Type 0
      Comes x k = x.lo + k ≡ x.start + select_from rows d m (suc j) x.start x.end (rank_from rows d m (suc j) x.start x.lo x.end)

      go : (b : Bool) → eqb (d / 2 ^ m % 2) 1 ≡ b → (k : ℕ) → Comes (half_of (halves_of (rows j) s) (d / 2 ^ m % 2)) k
          → s.lo + up_from_half (rows j) s.lo (d / 2 ^ m % 2) k
          ≡ s.start + select_from rows d (suc m) j s.start s.end (rank_from rows d (suc m) j s.start s.lo s.end)
      go true f k half =
          let b = rows j in
          let mid : ℕ = left b s.start s.end in
          let S : ℕ = select_from rows d m (suc j) mid s.end (rank_from rows d m (suc j) mid (right b s.start s.end s.lo) s.end) in
          let same : right b s.start s.end s.lo + k ≡ mid + S = subst (λ (x : Span). Comes x k) (half_one m j (omega arith) s o f) half in
          let ranks : rank 1 b s.lo + k + 1 ≡ rank 1 b s.start + S + 1 = omega (arith, same, ones_mono b s.start s.lo o.from) in
          let after = up_after b t.entries (level-of bytes t j (omega arith)) s o 1 k in
          rw f (
          let place : select 1 b (rank 1 b s.lo + k + 1) ≡ select 1 b (rank 1 b s.start + S + 1) = ap (select 1 b) ranks in
          same_place place after o.from)
      go false f k half =
          let b = rows j in
          let mid : ℕ = left b s.start s.end in
          let S : ℕ = select_from rows d m (suc j) s.start mid (rank_from rows d m (suc j) s.start (left b s.start s.lo) mid) in
          let same : left b s.start s.lo + k ≡ s.start + S = subst (λ (x : Span). Comes x k) (half_zero m j (omega arith) s o f) half in
          let ranks : (s.lo - rank 1 b s.lo) + k + 1 ≡ (s.start - rank 1 b s.start) + S + 1 =
          omega (arith, same, ones_mono b s.start s.lo o.from, ones_step b s.start s.lo o.from, rank_le b s.lo, rank_le b s.start, o.from) in
          let after = up_after b t.entries (level-of bytes t j (omega arith)) s o 0 k in
          rw f (
          let place : select 0 b ((s.lo - rank 1 b s.lo) + k + 1) ≡ select 0 b ((s.start - rank 1 b s.start) + S + 1) = ap (select 0 b) ranks in
          same_place place after o.from)

  -- where all of the range's entries in a node are d, the first of them is
  leaf_le : (m j : ℕ) → m + j ≡ t.height → (s : Span) → Ordered t.entries s → (leaf_from rows d m j s).hi - (leaf_from rows d m j s).lo ≤ s.hi - s.lo
  leaf_le zero j e s o = le_refl (s.hi - s.lo)
  leaf_le (suc m) j e s o =
      let v = level-of bytes t j (omega arith) in
      let bit : ℕ = d / 2 ^ m % 2 in
      le_trans (leaf_le m (suc j) (omega arith) (half_of (halves_of (rows j) s) bit) (ordered_half_of (rows j) t.entries v s o bit)) (half_le (rows j) t.entries v s o bit)

  all_first : (m j : ℕ) → m + j ≡ t.height → (s : Span) → Ordered t.entries s → (leaf_from rows d m j s).hi - (leaf_from rows d m j s).lo ≡ s.hi - s.lo
      → 0 < s.hi - s.lo → first_from rows d m j s ≡ 0
  all_first zero j e s o all some = refl
  all_first (suc m) j e s o all some =
      let v = level-of bytes t j (omega arith) in
      let bit : ℕ = d / 2 ^ m % 2 in
      let half : Span = half_of (halves_of (rows j) s) bit in
      let ordered = ordered_half_of (rows j) t.entries v s o bit in
      let le = half_le (rows j) t.entries v s o bit in
      let below = leaf_le m (suc j) (omega arith) half ordered in
      let same : half.hi - half.lo ≡ s.hi - s.lo = le_antisym le (subst (λ (x : ℕ). x ≤ half.hi - half.lo) all below) in
      ap (up_from_half (rows j) s.lo bit) (all_first m (suc j) (omega arith) half ordered (all ∙ sym same) (subst (λ (x : ℕ). 0 < x) (sym same) some))
      ∙ sym (up_alone (rows j) t.entries v s o bit 0 some same)

  module _ (j : ℕ) (l : j ≤ t.height) (s : Span) (o : Ordered t.entries s) (count : ℕ) (has : Has rows d (t.height - j) j s count) where
    pub first-all : s.hi - s.lo ≡ count → (0 ≡ first_from rows d (t.height - j) j s) × (0 < s.hi - s.lo)
    first-all e =
        let some : 0 < s.hi - s.lo = subst (λ (x : ℕ). 0 < x) (sym e) has.0 in
        (sym (all_first (t.height - j) j (omega arith) s o (sym has.1 ∙ sym e) some), some)

    -- a node with others is no leaf
    no_leaf : (s.hi - s.lo ≡ count → ⊥) → j < t.height
    no_leaf f = go (dec_le (suc j) t.height)
      where
        go : Dec (suc j ≤ t.height) → j < t.height
        go (yes m) = m
        go (no m) =
            let none : t.height - j ≡ 0 = omega arith in
            absurd (f (sym (has.1 ∙ ap (λ (m : ℕ). (leaf_from rows d m j s).hi - (leaf_from rows d m j s).lo) none)))

  -- ---- by one row, to the half x that the next bit leads to

  module _ (j : ℕ) (l : j < t.height) (s : Span) (o : Ordered t.entries s) (x : Span)
      (is : x ≡ half_of (halves_of (rows j) s) (d / 2 ^ (t.height - 1 - j) % 2)) where
    abbrev v : Level t.entries (rows j)
    v = level-of bytes t j l

    rest : t.height - j ≡ suc (t.height - suc j)
    rest = omega arith

    power : t.height - 1 - j ≡ t.height - suc j
    power = omega arith

    is_half : x ≡ half_of (halves_of (rows j) s) (d / 2 ^ (t.height - suc j) % 2)
    is_half = is ∙ ap (λ (m : ℕ). half_of (halves_of (rows j) s) (d / 2 ^ m % 2)) power

    half_ordered : Ordered t.entries x
    half_ordered = subst (Ordered t.entries) (sym is) (ordered_half_of (rows j) t.entries v s o (d / 2 ^ (t.height - 1 - j) % 2))

    half_has : (count : ℕ) → Has rows d (t.height - j) j s count → Has rows d (t.height - (j + 1)) (j + 1) x count
    half_has count has =
        rw (add-one j) (subst (λ (y : Span). Has rows d (t.height - suc j) (suc j) y count) (sym is_half) (subst (λ (m : ℕ). Has rows d m j s count) rest has))

    -- what the half answers is k
    module _ (k : ℕ) (found : k ≡ first_from rows d (t.height - (j + 1)) (j + 1) x) (inside : k < x.hi - x.lo) where
      up_is : up_from_half (rows j) s.lo (d / 2 ^ (t.height - 1 - j) % 2) k ≡ first_from rows d (t.height - j) j s
      up_is =
          let from : k ≡ first_from rows d (t.height - suc j) (suc j) x = rw (add-one j) at found in
          (λ i. up_from_half (rows j) s.lo (d / 2 ^ power i % 2) ((from ∙ ap (first_from rows d (t.height - suc j) (suc j)) is_half) i))
          ∙ ap (λ (m : ℕ). first_from rows d m j s) (sym rest)

      first_alone : x.hi - x.lo ≡ s.hi - s.lo → (k ≡ first_from rows d (t.height - j) j s) × (k < s.hi - s.lo)
      first_alone e =
          let less : k < s.hi - s.lo = omega arith in
          (up_alone (rows j) t.entries v s o (d / 2 ^ (t.height - 1 - j) % 2) k less (ap (λ (y : Span). y.hi - y.lo) (sym is) ∙ e) ∙ up_is, less)

      first_up : (r : ℕ) → r ≡ up_from_half (rows j) s.lo (d / 2 ^ (t.height - 1 - j) % 2) k → (r ≡ first_from rows d (t.height - j) j s) × (r < s.hi - s.lo)
      first_up r e =
          let less = up_inside (rows j) t.entries v s o (d / 2 ^ (t.height - 1 - j) % 2) k (subst (λ (y : Span). k < y.hi - y.lo) is inside) in
          (e ∙ up_is, subst (λ (y : ℕ). y < s.hi - s.lo) (sym e) less)

  -- the ones before the range, by the node's and by the one half's
  module _ (j : ℕ) (l : j < t.height) (s : Span) (o : Ordered t.entries s) (node : Ranked) (two : Halves)
      (ranked : node ≡ ranked_of (rows j) s.start s.end) (halved : two ≡ halves_of (rows j) s) where
    order : s.start ≤ s.end
    order = le_trans o.from (le_trans o.range o.to)

    middle : node.middle ≡ left (rows j) s.start s.end
    middle = ap (λ (r : Ranked). r.middle) ranked ∙ middle_by_ones (rows j) t.entries (level-of bytes t j l) s.start s.end order o.inside

    one_lo : two.one.lo ≡ right (rows j) s.start s.end s.lo
    one_lo = ap (λ (x : Halves). x.one.lo) (halved ∙ halves_by_ones (rows j) t.entries (level-of bytes t j l) s o)

    middle_before : node.middle ≤ two.one.lo
    middle_before = rw (middle, one_lo) (left_le_right (rows j) s.start s.lo s.end)

    before-range : node.before + (two.one.lo - node.middle) ≡ rank 1 (rows j) s.lo
    before-range =
        let before : node.before ≡ rank 1 (rows j) s.start = ap (λ (r : Ranked). r.before) ranked in
        rw (before, middle, one_lo)
        (sums (left (rows j) s.start s.end) (rank 1 (rows j) s.start) (rank 1 (rows j) s.lo) (ones_mono (rows j) s.start s.lo o.from))

  -- ---- from the root

  module _ (a b : ℕ) (order : a ≤ b) (inside : b ≤ t.entries) (low : d < 2 ^ t.height) (count : ℕ) (some : 0 < count) (is : count ≡ occurrences d (part a b (entries_in bytes t))) where
    abbrev xs : List ℕ
    xs = entries_in bytes t

    abbrev n : ℕ
    n = t.entries

    abbrev top : Span
    top = span 0 a b n

    pub root-ordered : Ordered n top
    root-ordered = record { from = omega arith; range = order; to = inside; inside = omega arith }

    rank_is : (p : ℕ) → p ≤ n → rank_from rows d t.height 0 0 p n ≡ rank d xs p
    rank_is p l =
        ap (λ (x : ℕ). rank_from rows d t.height 0 0 p x) (sym (length-entries_in bytes t))
        ∙ rank_walk_lem (rows_of t.height xs (within_entries_in bytes t)) d p low (omega (arith, length-entries_in bytes t))

    counted : rank d xs b ≡ rank d xs a + occurrences d (part a b xs)
    counted = tally-part (eqb d) a b xs order

    pub root-has : Has rows d (t.height - 0) 0 top count
    root-has =
        rw (sub-zero t.height)
        (let (lower, upper) = leaf_ranks t.height 0 (omega arith) top root-ordered in
        (some, omega (arith, is, lower, upper, rank_is a (omega arith), rank_is b inside, counted)))

    less : rank d xs a ≡ suc (rank d xs a) - 1
    less = omega arith

    pub root-first : a + first_from rows d (t.height - 0) 0 top ≡ first_place a (part a b xs) d
    root-first =
        rw (sub-zero t.height)
        (first-from t.height 0 (omega arith) top root-ordered
        ∙ ap (λ (k : ℕ). 0 + select_from rows d t.height 0 0 n k) (rank_is a (omega arith))
        ∙ zero-add (select_from rows d t.height 0 0 n (rank d xs a))
        ∙ (λ i. select_from rows d t.height 0 0 (sym (length-entries_in bytes t) i) (less i))
        ∙ select_walk_lem (rows_of t.height xs (within_entries_in bytes t)) d (suc (rank d xs a)) (omega arith) (omega (arith, counted, tally-take_le (eqb d) b xs))
        ∙ sym (first-place-select d xs a b order (omega (arith, length-entries_in bytes t)) (omega arith)))

-- ---- by one row of the code: the node as it was ranked, its halves with the range in them, and the half x that the next bit leads to

module _ (tree : Tree) (d count j : ℕ) (s : Span)
    (has : (j ≤ tree.levels.height) × Ordered tree.levels.entries s × Has (level_of tree.bytes.now tree.levels) d (tree.levels.height - j) j s count)
    (others : s.hi - s.lo ≡ count → ⊥) {node : Ranked} (r : node ≡ ranked_of (level_of tree.bytes.now tree.levels j) s.start s.end)
    {two : Halves} (h : two ≡ halves_of (level_of tree.bytes.now tree.levels j) (span_in node s.lo s.hi))
    {bit : ℕ} (p : bit ≡ d / 2 ^ (tree.levels.height - 1 - j) % 2) {x : Span} (w : x ≡ half_of two bit) where
  abbrev bytes : List ℕ
  bytes = tree.bytes.now

  abbrev t : Levels
  t = tree.levels

  pub deeper : j < t.height
  deeper = no_leaf bytes t d j has.0 s has.1 count has.2 others

  halved : two ≡ halves_of (level_of bytes t j) s
  halved = h ∙ ap (halves_of (level_of bytes t j)) (ranked_span (level_of bytes t j) s.start s.end s.lo s.hi node r)

  is : x ≡ half_of (halves_of (level_of bytes t j) s) (d / 2 ^ (t.height - 1 - j) % 2)
  is = w ∙ (λ i. half_of (halved i) (p i))

  ordered : Ordered t.entries x
  ordered = half_ordered bytes t d j deeper s has.1 x is

  pub half_next : (j + 1 ≤ t.height) × Ordered t.entries x × Has (level_of bytes t) d (t.height - (j + 1)) (j + 1) x count
  half_next = (let l = deeper in omega arith, ordered, half_has bytes t d j deeper s has.1 x is count has.2)

  -- the ones before the range
  pub before_lo : (node.before + (two.one.lo - node.middle) ≡ rank 1 (level_of bytes t j) s.lo) × (node.before + (two.one.lo - node.middle) ≤ s.lo)
  before_lo =
      let e = before-range bytes t d j deeper s has.1 node two r halved in
      (e, omega (arith, e, rank_le (level_of bytes t j) s.lo))

  -- what the half answers is k
  module _ {k : ℕ} (f : (k ≡ first_from (level_of bytes t) d (t.height - (j + 1)) (j + 1) x) × (k < x.hi - x.lo)) where
    pub alone : x.hi - x.lo ≡ s.hi - s.lo → (k ≡ first_from (level_of bytes t) d (t.height - j) j s) × (k < s.hi - s.lo)
    alone = first_alone bytes t d j deeper s has.1 x is k f.0 f.1

    pub up_first : {r : ℕ} → r ≡ up_from_half (level_of bytes t j) s.lo bit k → (r ≡ first_from (level_of bytes t) d (t.height - j) j s) × (r < s.hi - s.lo)
    up_first {r} e = first_up bytes t d j deeper s has.1 x is k f.0 f.1 r (e ∙ ap (λ (b : ℕ). up_from_half (level_of bytes t j) s.lo b k) p)

    pub up_places : (j < t.height) × (s.lo < s.hi) × (s.hi ≤ t.entries) × (k ≤ t.entries)
    up_places =
        let some = (up_first refl).1 in
        let o = has.1 in
        (deeper, omega (arith, some), omega (arith, o.to, o.inside), omega (arith, f.1, ordered.to, ordered.inside))
