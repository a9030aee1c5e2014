-- The count of a set by a place in a node: none where the node has no entry before it, all where the set has every document of the node, and else the sum of
-- the counts in the halves.
use Prim.Native.Nat.{ℕ, suc, ◌+◌, ◌-◌, ◌*◌, ◌%◌, ◌^◌, ◌≤◌, ◌<◌}
use native.Mathlib.Omega.{arith}
use native.Mathlib.Nat.{le_refl}
use native.Mathlib.Numerals.{add-one}
use mathlib.Core.Path.{◌≡◌, sym, ap, ◌∙◌, subst}
use mathlib.Core.List.{List}
use lib.ListN.{length, get_or, take, drop, length-take, take-append-drop}
use lib.Seq.{get_or-take}
use lib.Dec.{eqb}
use Rattle.bits.proofs.Tally.{tally_same, tally_le, tally_le_length}
use Rattle.model.specs.Walk.{key}
use Rattle.model.specs.RankSet.{member, rank_set}
use Rattle.model.proofs.Wavelet.Rows.{key_half}
use Rattle.model.proofs.RankSet.Counts.{rank-set-append}
use Rattle.wavelet.specs.declared.Levels.{Levels}
use Rattle.wavelet.specs.declared.Halves.{Halves}
use Rattle.wavelet.specs.declared.Place.{Place}
use Rattle.wavelet.specs.Levels.{entries_in, level_of}
use Rattle.wavelet.specs.Spans.{Ordered, halves_of, span_of, span_at}
use Rattle.wavelet.specs.Descents.{Toward, Leads, CountsUnder}
use Rattle.wavelet.proofs.Descents.{toward_root, toward_ordered, toward_next, node_entries}
use Rattle.rank_set.specs.declared.Places.{Places}
use Rattle.rank_set.specs.Sets.{Front}
use Rattle.rank_set.specs.Nodes.{Under, Reached, places_of, CountsAt}
use Rattle.rank_set.proofs.Parts.{front-zero, rest-first, under_rest}
use Rattle.rank_set.proofs.Members.{parts_disjoint, member-under, member-full}

module _ (bytes : List ℕ) (t : Levels) where
  abbrev h : ℕ
  h = t.height

  abbrev xs : List ℕ
  xs = entries_in bytes t

  -- a place that is reached is in order
  pub reached_ordered : (set : List ℕ) (j : ℕ) (p : Place) → Reached bytes t set j p → Ordered t.entries (span_at p)
  reached_ordered set j p r = toward_ordered bytes t r.place r.place (get_or set 0 0) (le_refl r.place) r.inside r.toward

  -- a count is at most the number of entries
  pub counts_fit : (set : List ℕ) (j : ℕ) (p : Place) (r : ℕ) → Reached bytes t set j p → CountsAt bytes t set j p r → r ≤ t.entries
  counts_fit set j p r at counts =
      omega (
        arith,
        counts at.place at.inside at.toward,
        tally_le_length (member set) (take at.place xs),
        length-take at.place xs,
        at.inside,
      )

  -- ---- the root

  module _ (set : List ℕ) (u : Under h 0 set) (place : ℕ) (l : place ≤ t.entries) where
    abbrev root : Place
    root = record { start = 0; at = place; end = t.entries }

    toward_place : Toward bytes t place place (get_or set 0 0) 0 (span_at root)
    toward_place = toward_root bytes t place place (get_or set 0 0) (le_refl place) l (u.fit 0 u.some)

    pub root_reached : Reached bytes t set 0 root
    root_reached = record { place = place; inside = l; toward = toward_place }

    pub root-counts : (r : ℕ) → CountsAt bytes t set 0 root r → r ≡ rank_set set xs place
    root-counts r counts = counts place l toward_place

  -- ---- from a node to one below it

  pub reached_down : (set : List ℕ) (j : ℕ) (p : Place) (k : ℕ) (r : Place) → Leads bytes t (get_or set 0 0) j p k r → Reached bytes t set j p → Reached bytes t set k r
  reached_down set j p k r leads at = record { place = at.place; inside = at.inside; toward = leads at.place at.inside at.toward }

  pub counts_up : (set : List ℕ) (j : ℕ) (p : Place) (k : ℕ) (r : Place) (c : ℕ) → Leads bytes t (get_or set 0 0) j p k r → CountsAt bytes t set k r c → CountsAt bytes t set j p c
  counts_up set j p k r c leads counts i inside from = counts i inside (leads i inside from)

  -- ---- none, and all

  module _ (set : List ℕ) (j : ℕ) (u : Under h j set) (p : Place) where
    pub counts_none : p.start ≡ p.at → CountsAt bytes t set j p 0
    counts_none e i inside from =
        omega (
          arith,
          node_entries bytes t i (get_or set 0 0) j p from,
          tally_le (member set) (λ x. eqb (key h j x) (key h j (get_or set 0 0))) (member-under h j set u) (take i xs),
        )

    -- by the entries of a node below, of which the set has every document
    pub counts_all : (k r : ℕ) → Under h k set → length set ≡ 2 ^ (h - k) → CountsUnder bytes t (get_or set 0 0) j p k r → CountsAt bytes t set j p r
    counts_all k r v full counts i inside from =
        counts i inside from ∙ sym (tally_same (member set) (λ x. eqb (key h k x) (key h k (get_or set 0 0))) (member-full h k set v full) (take i xs))

  -- ---- the halves

  module _ (set : List ℕ) (k : ℕ) (u : Under h k set) (l : k < h) (size : ℕ) (f : Front set (h - (k + 1)) size)
      (apart : key h (k + 1) (get_or set 0 0) ≡ key h (k + 1) (get_or set (length set - 1) 0) → ⊥)
      (p : Place) (two : Places) (is : places_of two ≡ halves_of (level_of bytes t k) (span_at p)) where
    abbrev first : ℕ
    first = get_or set 0 0

    -- the place in the zero half, toward the first of the front, and in the one half, toward the first of the rest
    toward_zero : (i : ℕ) → i ≤ t.entries → Toward bytes t i i first k (span_at p) → Toward bytes t i i (get_or (take size set) 0 0) (k + 1) (span_at two.zero)
    toward_zero i inside from =
        subst (λ (v : ℕ). Toward bytes t i i v (k + 1) (span_at two.zero)) (sym (get_or-take size set 0 0 f.some))
        (subst (Toward bytes t i i first (k + 1)) (sym (ap (λ (r : Halves). r.zero) is))
        (toward_next bytes t i i first (le_refl i) inside (u.fit 0 u.some) l from 0 even))
      where
        zero_half_size : key h (suc k) first ≡ 2 * key h k first
        zero_half_size = ap (λ (n : ℕ). key h n first) (sym (add-one k)) ∙ front-zero h k set u l size f apart

        even : 0 ≡ key h (suc k) first % 2
        even = omega (arith, zero_half_size)

    toward_one : (i : ℕ) → i ≤ t.entries → Toward bytes t i i first k (span_at p) → Toward bytes t i i (get_or (drop size set) 0 0) (k + 1) (span_at two.one)
    toward_one i inside from =
        subst (Toward bytes t i i second (k + 1)) (sym (ap (λ (r : Halves). r.one) is))
        (toward_next bytes t i i second (le_refl i) inside (rest.fit 0 rest.some) l
        (record { deep = from.deep; reached = from.reached ∙ ap (span_of h xs i i k) (sym same) }) 1 odd)
      where
        second : ℕ
        second = get_or (drop size set) 0 0

        rest : Under h (k + 1) (drop size set)
        rest = under_rest h k set u l size f apart

        one_half_size : key h (suc k) second ≡ 2 * key h k first + 1
        one_half_size = ap (λ (n : ℕ). key h n second) (sym (add-one k)) ∙ rest-first h k set u l size f apart

        odd : 1 ≡ key h (suc k) second % 2
        odd = omega (arith, one_half_size)

        same : key h k second ≡ key h k first
        same = key_half h k second l ∙ omega (arith, one_half_size)

    pub reached_zero : Reached bytes t set k p → Reached bytes t (take size set) (k + 1) two.zero
    reached_zero at = record { place = at.place; inside = at.inside; toward = toward_zero at.place at.inside at.toward }

    pub reached_one : Reached bytes t set k p → Reached bytes t (drop size set) (k + 1) two.one
    reached_one at = record { place = at.place; inside = at.inside; toward = toward_one at.place at.inside at.toward }

    pub counts-halves : (zeros ones : ℕ) → CountsAt bytes t (take size set) (k + 1) two.zero zeros → CountsAt bytes t (drop size set) (k + 1) two.one ones
        → CountsAt bytes t set k p (zeros + ones)
    counts-halves zeros ones a b i inside from =
        (λ n. a i inside (toward_zero i inside from) n + b i inside (toward_one i inside from) n)
        ∙ sym (rank-set-append (take size set) (drop size set) xs i (parts_disjoint set size f.inside u.ascends))
        ∙ ap (λ (s : List ℕ). rank_set s xs i) (take-append-drop size set)
