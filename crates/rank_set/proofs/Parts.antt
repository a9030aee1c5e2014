-- Sets of documents under a node: at the root, at the lowest node that has them all, and the parts of a set under a node's halves.
use Prim.Native.Nat.{ℕ, ◌+◌, ◌-◌, ◌*◌, ◌/◌, ◌^◌, ◌≤◌, ◌<◌}
use native.Mathlib.Omega.{arith}
use native.Mathlib.Nat.{le_trans, div-mul-le_self, le-div_iff_mul-le}
use native.Mathlib.Numerals.{add-one}
use mathlib.Core.Path.{◌≡◌, sym, ap, ◌∙◌}
use mathlib.Core.Logic.{◌⊎◌, inl, inr}
use mathlib.Core.List.{List}
use mathlib.Core.Bool.{true}
use lib.ListN.{length, get_or, take, drop, length-drop}
use lib.Seq.{length-take-le, get_or-take, get_or-drop}
use lib.Pow.{pow_pos, pow_mono}
use Rattle.bits.proofs.Tests.{le_or_lt}
use Rattle.model.specs.Lists.{Within}
use Rattle.model.specs.Walk.{key}
use Rattle.model.specs.RankSet.{ascending}
use Rattle.model.proofs.Lists.{within_at}
use Rattle.model.proofs.Wavelet.Rows.{key_half, key-root, key_leaf}
use Rattle.model.proofs.RankSet.Ascending.{ascending-at}
use Rattle.rank_set.specs.Sets.{Front}
use Rattle.rank_set.specs.Nodes.{Under}
use Rattle.rank_set.proofs.Rising.{ascends_by, ascends_le}

-- nodes of one depth stand in the order of their documents
key_mono : (h j x y : ℕ) → x ≤ y → key h j x ≤ key h j y
key_mono h j x y l = (le-div_iff_mul-le (pow_pos (h - j))).1 (le_trans (div-mul-le_self x (2 ^ (h - j))) l)

-- all documents are under the root
pub under-root : (h N : ℕ) (set : List ℕ) → ascending set ≡ true → Within N set → N ≤ 2 ^ h → 0 < length set → Under h 0 set
under-root h N set e w l some = record {
  deep = omega arith;
  some = some;
  ascends = ascending-at set e;
  fit = fit;
  together = λ i b. key-root h (get_or set i 0) (fit i b) ∙ sym (key-root h (get_or set 0 0) (fit 0 some));
}
  where
    fit : (i : ℕ) → i < length set → get_or set i 0 < 2 ^ h
    fit i b = le_trans (within_at N set i w b) l

module _ (h j : ℕ) (set : List ℕ) (u : Under h j set) where
  -- the last
  abbrev last : ℕ
  last = get_or set (length set - 1) 0

  -- as many as a tree of height 12 has documents
  pub under_few : h ≤ 12 → length set ≤ 4096
  under_few low =
      let wide : 2 ^ h ≤ 2 ^ 12 = pow_mono low in
      let e : 0 + (length set - 1) ≡ length set - 1 = omega arith in
      omega (
        arith,
        u.some,
        ascends_by set u.ascends 0 (length set - 1) (omega (arith, u.some)),
        ap (λ (n : ℕ). get_or set n 0) e,
        u.fit (length set - 1) (omega (arith, u.some)),
      )

  pub last-together : get_or set 0 0 / 2 ^ (h - j) ≡ last / 2 ^ (h - j)
  last-together = sym (u.together (length set - 1) (omega (arith, u.some)))

  -- where the first and the last are under one node, all are
  pub under_down : (k : ℕ) → k ≤ h → key h k (get_or set 0 0) ≡ key h k last → Under h k set
  under_down k l e = record {
    deep = l;
    some = u.some;
    ascends = u.ascends;
    fit = u.fit;
    together = λ i b.
        omega (
          arith,
          e,
          key_mono h k (get_or set 0 0) (get_or set i 0) (ascends_le set u.ascends 0 i (omega arith) b),
          key_mono h k (get_or set i 0) last (ascends_le set u.ascends i (length set - 1) (omega arith) (omega arith)),
        );
  }

  -- the lowest such node, by the fewest last bits without which the two agree
  module _ (height : ℕ) (agree : get_or set 0 0 / 2 ^ height ≡ last / 2 ^ height) (least : (k : ℕ) → get_or set 0 0 / 2 ^ k ≡ last / 2 ^ k → height ≤ k) where
    pub lowest_within : height ≤ h - j
    lowest_within = least (h - j) last-together

    pub under_lowest : Under h (h - height) set
    under_lowest =
        let e : height ≡ h - (h - height) = omega (arith, lowest_within) in
        under_down (h - height) (omega arith) (rw (← e) agree)

    pub lowest_parts : h - height < h → key h (h - height + 1) (get_or set 0 0) ≡ key h (h - height + 1) last → ⊥
    lowest_parts l e = absurd (omega (arith, least (h - (h - height + 1)) e))

-- under a leaf there is one document: so a node whose documents are not all in the set is above the leaves
pub under_inner : (h k : ℕ) (set : List ℕ) → Under h k set → (length set ≡ 2 ^ (h - k) → ⊥) → k < h
under_inner h k set u short = go (le_or_lt h k)
  where
    alone : k ≡ h → length set ≤ 1
    alone e = few (le_or_lt (length set) 1)
      where
        number : (v : ℕ) → key h k v ≡ v
        number v = ap (λ (n : ℕ). key h n v) e ∙ key_leaf h v

        few : (length set ≤ 1) ⊎ (1 < length set) → length set ≤ 1
        few (inl l) = l
        few (inr l) = absurd (omega (arith, u.ascends 0 1 (omega arith) l, u.together 1 l, number (get_or set 0 0), number (get_or set 1 0)))

    go : (h ≤ k) ⊎ (k < h) → k < h
    go (inr l) = l
    go (inl l) =
        let e : k ≡ h = omega (arith, u.deep) in
        let z : h - k ≡ 0 = omega arith in
        absurd (short (omega (arith, alone e, u.some, ap (λ (n : ℕ). 2 ^ n) z)))

-- the documents under the two halves of a node of depth k: the front of the set, and the rest
module _ (h k : ℕ) (set : List ℕ) (u : Under h k set) (l : k < h) (size : ℕ) (f : Front set (h - (k + 1)) size)
    (apart : key h (k + 1) (get_or set 0 0) ≡ key h (k + 1) (get_or set (length set - 1) 0) → ⊥) where
  pub front-short : size < length set
  front-short = go (le_or_lt (length set) size)
    where
      go : (length set ≤ size) ⊎ (size < length set) → size < length set
      go (inl m) = absurd (apart (sym (f.agree (length set - 1) (omega (arith, u.some)))))
      go (inr m) = m

  -- by its half, the node is that of the first document
  half_of : (i : ℕ) → i < length set → key h (k + 1) (get_or set i 0) / 2 ≡ key h k (get_or set 0 0)
  half_of i b = rw add-one (sym (key_half h k (get_or set i 0) l) ∙ u.together i b)

  -- the front is under the zero half ..
  pub front-zero : key h (k + 1) (get_or set 0 0) ≡ 2 * key h k (get_or set 0 0)
  front-zero =
      omega (
        arith,
        half_of 0 u.some,
        half_of size front-short,
        f.differs front-short,
        key_mono h (k + 1) (get_or set 0 0) (get_or set size 0) (ascends_le set u.ascends 0 size (omega arith) front-short),
      )

  -- .. and the rest under the one half
  rest-one : (i : ℕ) → size ≤ i → i < length set → key h (k + 1) (get_or set i 0) ≡ 2 * key h k (get_or set 0 0) + 1
  rest-one i a b =
      omega (
        arith,
        half_of i b,
        front-zero,
        half_of size front-short,
        f.differs front-short,
        key_mono h (k + 1) (get_or set 0 0) (get_or set size 0) (ascends_le set u.ascends 0 size (omega arith) front-short),
        key_mono h (k + 1) (get_or set size 0) (get_or set i 0) (ascends_le set u.ascends size i a b),
      )

  pub rest-first : key h (k + 1) (get_or (drop size set) 0 0) ≡ 2 * key h k (get_or set 0 0) + 1
  rest-first =
      let e : size + 0 ≡ size = omega arith in
      ap (key h (k + 1)) (get_or-drop size set 0 0 ∙ ap (λ (n : ℕ). get_or set n 0) e) ∙ rest-one size (omega arith) front-short

  pub under-front : Under h (k + 1) (take size set)
  under-front = record {
    deep = omega arith;
    some = rw length_is f.some;
    ascends = λ i n a b.
        omega (arith, at i (omega (arith, length_is)), at n (omega (arith, length_is)), u.ascends i n a (omega (arith, length_is, f.inside)));
    fit = λ i b. let e = at i (omega (arith, length_is)) in omega (arith, e, u.fit i (omega (arith, length_is, f.inside)));
    together = λ i b.
        ap (key h (k + 1)) (at i (omega (arith, length_is))) ∙ f.agree i (omega (arith, length_is)) ∙ sym (ap (key h (k + 1)) (at 0 f.some));
  }
    where
      length_is : length (take size set) ≡ size
      length_is = length-take-le size set f.inside

      at : (i : ℕ) → i < size → get_or (take size set) i 0 ≡ get_or set i 0
      at i b = get_or-take size set i 0 b

  pub under_rest : Under h (k + 1) (drop size set)
  under_rest = record {
    deep = omega arith;
    some = omega (arith, length-drop size set, front-short);
    ascends = λ i n a b. omega (arith, get_or-drop size set i 0, get_or-drop size set n 0, u.ascends (size + i) (size + n) (omega arith) (inside n b));
    fit = λ i b. omega (arith, get_or-drop size set i 0, u.fit (size + i) (inside i b));
    together = λ i b. ap (key h (k + 1)) (get_or-drop size set i 0) ∙ rest-one (size + i) (omega arith) (inside i b) ∙ sym rest-first;
  }
    where
      inside : (i : ℕ) → i < length (drop size set) → size + i < length set
      inside i b = omega (arith, length-drop size set)
