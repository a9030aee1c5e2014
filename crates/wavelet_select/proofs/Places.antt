-- The steps of select: bounds of the places that are found on the way up, and the walk by one row.
use Prim.Native.Nat.{ℕ, suc, ◌+◌, ◌-◌, ◌/◌, ◌%◌, ◌^◌, ◌≤◌, ◌<◌, min}
use native.Mathlib.Nat.{le_of_lt, sub-zero}
use native.Mathlib.Numerals.{add-one}
use native.Mathlib.Omega.{arith}
use native.Mathlib.Decide.{dec_le}
use mathlib.Core.Path.{◌≡◌, refl, sym, ap, ◌∙◌}
use mathlib.Core.List.{List}
use mathlib.Core.Bool.{Bool, true, false, cond}
use lib.ListN.{length}
use lib.Seq.{take-length}
use lib.Dec.{eqb, ltb}
use borrow.Author.Tests.{lt-ltb, le-ltb}
use Rattle.bits.specs.Sequences.{bit, occurrences, rank, select}
use Rattle.bits.proofs.Sequences.{select_ge, select_none}
use Rattle.model.specs.Walk.{left, rank_from, select_from}
use Rattle.model.proofs.Wavelet.Counts.{right_end, zeros-front, left_le}
use Rattle.model.proofs.Wavelet.Rank.{rank_walk_lem}
use Rattle.model.proofs.Wavelet.Rows.{row-length, row_below, rows_of}
use Rattle.model.proofs.Wavelet.Select.{select_walk_lem, select_inside}
use Rattle.wavelet.specs.declared.Levels.{Levels}
use Rattle.wavelet.specs.declared.Ranked.{Ranked}
use Rattle.wavelet.specs.declared.tree.Tree.{Tree}
use Rattle.wavelet.specs.Levels.{entries_in, level_of}
use Rattle.wavelet.specs.Spans.{ranked_of}
use Rattle.wavelet_select.specs.Places.{up_from_half, offset_from}
use Rattle.wavelet.proofs.Stored.{length-entries_in, within_entries_in}
use Rattle.wavelet.proofs.Steps.{level-of, rank_le, middle_by_ones}

-- the bounds of the half that a bit leads to
picked : (b : Bool) (s m e : ℕ) → s ≤ m → m ≤ e → (s ≤ cond b m s) × (cond b m s ≤ cond b e m) × (cond b e m ≤ e)
picked true s m e a c = omega arith
picked false s m e a c = omega arith

-- a half with a place x has a node with entries
half_filled : {s from to e n x : ℕ} → s ≤ from → to ≤ e → e ≤ n → x < to - from → (s < e) × (x ≤ n)
half_filled a b c l = omega arith

-- the lesser of two
min_cond : (x y : ℕ) → min x y ≡ cond (ltb x y) x y
min_cond x y = go (dec_le (suc x) y)
  where
    go : Dec (suc x ≤ y) → min x y ≡ cond (ltb x y) x y
    go (yes l) = rw (lt-ltb x y l) (omega arith)
    go (no l) = rw (le-ltb x y (omega arith)) (omega arith)

-- ---- places on the way up

module _ (bytes : List ℕ) (t : Levels) (j : ℕ) (l : j < t.height) where
  level-length : length (level_of bytes t j) ≡ t.entries
  level-length = row-length t.height j (entries_in bytes t) (le_of_lt l) (within_entries_in bytes t) ∙ length-entries_in bytes t

  abbrev row : List ℕ
  row = level_of bytes t j

  -- which bit of its kind stands k into the half of a bit, of a node from s on
  abbrev nth : Bool → ℕ → ℕ → ℕ
  nth b s k = cond b (rank 1 row s) (s - rank 1 row s) + k + 1

  pub before_nth : (b : Bool) (s k : ℕ) → s ≤ t.entries → rank (bit b) row s < nth b s k
  before_nth true s k m = omega arith
  before_nth false s k m =
      let z = zeros-front row s (row_below t.height j (entries_in bytes t)) (rw level-length m) in
      omega arith

  pub nth_after : (b : Bool) (s k : ℕ) → s ≤ t.entries → s ≤ select (bit b) row (nth b s k)
  nth_after b s k m = select_ge (bit b) row s (nth b s k) (rw level-length m) (before_nth b s k m)

  pub nth_up : (b : Bool) (s k : ℕ) → select (bit b) row (nth b s k) - s ≡ cond b (select 1 row (rank 1 row s + k + 1) - s) (select 0 row ((s - rank 1 row s) + k + 1) - s)
  nth_up true s k = refl
  nth_up false s k = refl

-- ---- the walk

module _ (bytes : List ℕ) (t : Levels) (d j s e k : ℕ) where
  abbrev h : ℕ
  h = t.height

  abbrev rows : ℕ → List ℕ
  rows = level_of bytes t

  -- at the leaf
  pub offset-end : j ≡ h → min k (e - s) ≡ offset_from rows d (h - j) j s e k
  offset-end p =
      let z : 0 ≡ h - j = omega arith in
      min_cond k (e - s) ∙ ap (λ (m : ℕ). offset_from rows d m j s e k) z

  -- by one row, to the half that the next bit leads to
  module _ (l : j < h) (o : s ≤ e) (bit mid : ℕ) (p : bit ≡ d / 2 ^ (h - 1 - j) % 2) (q : mid ≡ left (rows j) s e) where
    abbrev s' : ℕ
    s' = cond (eqb bit 1) mid s

    abbrev e' : ℕ
    e' = cond (eqb bit 1) e mid

    rest : suc (h - suc j) ≡ h - j
    rest = omega arith

    top : eqb (d / 2 ^ (h - suc j) % 2) 1 ≡ eqb bit 1
    top =
        let f : h - suc j ≡ h - 1 - j = omega arith in
        ap (λ (m : ℕ). eqb (d / 2 ^ m % 2) 1) f ∙ ap (λ (x : ℕ). eqb x 1) (sym p)

    count_next : rank_from rows d (h - suc j) (suc j) s' e' e' ≡ rank_from rows d (h - j) j s e e
    count_next = go (eqb bit 1) refl ∙ ap (λ (m : ℕ). rank_from rows d m j s e e) rest
      where
        go : (b : Bool) → eqb bit 1 ≡ b → rank_from rows d (h - suc j) (suc j) s' e' e' ≡ rank_from rows d (suc (h - suc j)) j s e e
        go true f = rw (top, f) (λ i. rank_from rows d (h - suc j) (suc j) (q i) (sym (right_end (rows j) s e o) i) e)
        go false f = rw (top, f) (ap (λ (m : ℕ). rank_from rows d (h - suc j) (suc j) s m m) q)

    place_next : up_from_half (rows j) s bit (select_from rows d (h - suc j) (suc j) s' e' k) ≡ select_from rows d (h - j) j s e k
    place_next = go (eqb bit 1) refl ∙ ap (λ (m : ℕ). select_from rows d m j s e k) rest
      where
        go : (b : Bool) → eqb bit 1 ≡ b
            → up_from_half (rows j) s bit (select_from rows d (h - suc j) (suc j) s' e' k) ≡ select_from rows d (suc (h - suc j)) j s e k
        go true f =
            rw (top, f) (ap (λ (m : ℕ). select 1 (rows j) (rank 1 (rows j) s + select_from rows d (h - suc j) (suc j) m e k + 1) - s) q)
        go false f =
            rw (top, f) (ap (λ (m : ℕ). select 0 (rows j) ((s - rank 1 (rows j) s) + select_from rows d (h - suc j) (suc j) s m k + 1) - s) q)

    -- what the half from `from` to `to` answers is x: one of its entries stands inside it, and its end says that it has none
    module _ (from to : ℕ) (u : from ≡ s') (w : to ≡ e') (order : from ≤ to) (bound : to ≤ t.entries) (x : ℕ) (f : x ≡ offset_from rows d (h - (j + 1)) (j + 1) from to k) where
      abbrev count : ℕ
      count = rank_from rows d (h - suc j) (suc j) from to to

      abbrev offset : ℕ
      offset = select_from rows d (h - suc j) (suc j) from to k

      same_count : count ≡ rank_from rows d (h - j) j s e e
      same_count = (λ i. rank_from rows d (h - suc j) (suc j) (u i) (w i) (w i)) ∙ count_next

      same_place : up_from_half (rows j) s bit offset ≡ select_from rows d (h - j) j s e k
      same_place = (λ i. up_from_half (rows j) s bit (select_from rows d (h - suc j) (suc j) (u i) (w i) k)) ∙ place_next

      answer : x ≡ cond (ltb k count) offset (to - from)
      answer = rw (add-one j) at f

      inside : k < count → offset < to - from
      inside =
          select_inside (rows_of h (entries_in bytes t) (within_entries_in bytes t)) d k (h - suc j) (suc j) (omega arith) from to order
          (omega (arith, length-entries_in bytes t))

      offset_none : x ≡ to - from → e - s ≡ offset_from rows d (h - j) j s e k
      offset_none a = rw (← same_count) (go (dec_le (suc k) count))
        where
          go : Dec (k < count) → e - s ≡ cond (ltb k count) (select_from rows d (h - j) j s e k) (e - s)
          go (yes b) = absurd (let y : x ≡ offset = rw (lt-ltb k count b) at answer in omega (arith, inside b))
          go (no b) = rw (le-ltb k count (omega arith))

      offset_some : (x ≡ to - from → ⊥) → (x < to - from) × (up_from_half (rows j) s bit x ≡ offset_from rows d (h - j) j s e k)
      offset_some a = rw (← same_count) (go (dec_le (suc k) count))
        where
          go : Dec (k < count) → (x < to - from) × (up_from_half (rows j) s bit x ≡ cond (ltb k count) (select_from rows d (h - j) j s e k) (e - s))
          go (yes b) =
              let y : x ≡ offset = rw (lt-ltb k count b) at answer in
              (omega (arith, inside b), rw (lt-ltb k count b) (ap (up_from_half (rows j) s bit) y ∙ same_place))
          go (no b) = absurd (a (rw (le-ltb k count (omega arith)) at answer))

-- ---- by one row of the code: the node as it was ranked, and the half from `from` to `to`

module _ (tree : Tree) (d j s e k : ℕ) (l : j < tree.levels.height) (o : s ≤ e) (b : e ≤ tree.levels.entries)
    {node : Ranked} (r : node ≡ ranked_of (level_of tree.bytes.now tree.levels j) s e)
    {bit : ℕ} (p : bit ≡ d / 2 ^ (tree.levels.height - 1 - j) % 2)
    {from to : ℕ} (u : from ≡ cond (eqb bit 1) node.middle s) (w : to ≡ cond (eqb bit 1) e node.middle) where
  middle : node.middle ≡ left (level_of tree.bytes.now tree.levels j) s e
  middle =
      ap (λ (x : Ranked). x.middle) r
      ∙ middle_by_ones (level_of tree.bytes.now tree.levels j) tree.levels.entries (level-of tree.bytes.now tree.levels j l) s e o b

  pub half_inside : (s ≤ from) × (from ≤ to) × (to ≤ e)
  half_inside = rw (u, w) (picked (eqb bit 1) s node.middle e (omega (arith, middle)) (omega (arith, middle, left_le (level_of tree.bytes.now tree.levels j) s e o)))

  module _ {x : ℕ} (f : x ≡ offset_from (level_of tree.bytes.now tree.levels) d (tree.levels.height - (j + 1)) (j + 1) from to k) where
    within : to ≤ tree.levels.entries
    within = omega (arith, half_inside)

    pub none_below : x ≡ to - from → e - s ≡ offset_from (level_of tree.bytes.now tree.levels) d (tree.levels.height - j) j s e k
    none_below = offset_none tree.bytes.now tree.levels d j s e k l o bit node.middle p middle from to u w half_inside.1 within x f

    module _ (some : x ≡ to - from → ⊥) where
      found : (x < to - from) × (up_from_half (level_of tree.bytes.now tree.levels j) s bit x ≡ offset_from (level_of tree.bytes.now tree.levels) d (tree.levels.height - j) j s e k)
      found = offset_some tree.bytes.now tree.levels d j s e k l o bit node.middle p middle from to u w half_inside.1 within x f some

      pub up_found : up_from_half (level_of tree.bytes.now tree.levels j) s bit x ≡ offset_from (level_of tree.bytes.now tree.levels) d (tree.levels.height - j) j s e k
      up_found = found.1

      pub filled : (s < e) × (x ≤ tree.levels.entries)
      filled = half_filled half_inside.0 half_inside.2 b found.0

-- the ones before a node that was ranked
module _ {node : Ranked} (bits : List ℕ) (s e : ℕ) (r : node ≡ ranked_of bits s e) where
  pub ones_before : (node.before ≡ rank 1 bits s) × (node.before ≤ s)
  ones_before =
      let before = ap (λ (x : Ranked). x.before) r in
      (before, omega (arith, before, rank_le bits s))

-- ---- from the root

module _ (bytes : List ℕ) (t : Levels) (d i : ℕ) (m : d < 2 ^ t.height) (l : 0 < i) where
  abbrev n : ℕ
  n = t.entries

  abbrev xs : List ℕ
  xs = entries_in bytes t

  all-occurrences : rank_from (level_of bytes t) d (t.height - 0) 0 0 n n ≡ occurrences d xs
  all-occurrences =
      (λ k. rank_from (level_of bytes t) d (sub-zero t.height k) 0 0 (sym (length-entries_in bytes t) k) (sym (length-entries_in bytes t) k))
      ∙ rank_walk_lem (rows_of t.height xs (within_entries_in bytes t)) d (length xs) m (omega arith)
      ∙ ap (occurrences d) (take-length xs)

  pub select-root : offset_from (level_of bytes t) d (t.height - 0) 0 0 n (i - 1) ≡ select d xs i
  select-root = rw all-occurrences (go (dec_le i (occurrences d xs)))
    where
      go : Dec (i ≤ occurrences d xs) → cond (ltb (i - 1) (occurrences d xs)) (select_from (level_of bytes t) d (t.height - 0) 0 0 n (i - 1)) (n - 0) ≡ select d xs i
      go (yes o) =
          rw (lt-ltb (i - 1) (occurrences d xs) (omega arith))
          ((λ k. select_from (level_of bytes t) d (sub-zero t.height k) 0 0 (sym (length-entries_in bytes t) k) (i - 1))
          ∙ select_walk_lem (rows_of t.height xs (within_entries_in bytes t)) d i l o)
      go (no o) =
          rw (le-ltb (i - 1) (occurrences d xs) (omega arith))
          (sub-zero n ∙ sym (select_none d xs i (omega arith) ∙ length-entries_in bytes t))
