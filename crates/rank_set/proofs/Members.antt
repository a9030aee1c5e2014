-- The members of a set under a node: all of them are under it, a set as large as the node has every document of it, and its parts have none in common.
use Prim.Native.Nat.{ℕ, ◌+◌, ◌-◌, ◌*◌, ◌/◌, ◌%◌, ◌^◌, ◌≤◌, ◌<◌}
use native.Mathlib.Omega.{arith}
use native.Mathlib.Nat.{div-mul-le_self, div-lt_iff_lt-mul, div-add-mod', mod-lt}
use mathlib.Core.Path.{◌≡◌, sym, ap, ◌∙◌}
use mathlib.Core.Logic.{◌⊎◌, inl, inr}
use mathlib.Core.List.{List}
use mathlib.Core.Bool.{true, false, ◌&&◌}
use lib.ListN.{length, get_or, take, drop, length-drop}
use lib.Seq.{length-take-le, get_or-take, get_or-drop}
use lib.Pow.{pow_pos}
use lib.Dec.{eqb}
use borrow.Author.Tests.{eq-eqb, eqb-true}
use Rattle.bits.proofs.Tests.{look, and_both}
use Rattle.model.specs.Walk.{key}
use Rattle.model.specs.RankSet.{member, Disjoint}
use Rattle.model.proofs.Any.{any_at, any_place}
use Rattle.rank_set.specs.Sets.{Ascends}
use Rattle.rank_set.specs.Nodes.{Under}
use Rattle.rank_set.proofs.Rising.{ascends_by}

-- the parts of an ascending list have no number in common
pub parts_disjoint : (set : List ℕ) (size : ℕ) → size ≤ length set → Ascends set
    → Disjoint (take size set) (drop size set)
parts_disjoint set size fits up d = go (look (member (take size set) d && member (drop size set) d))
  where
    both : (member (take size set) d && member (drop size set) d) ≡ true → ⊥
    both e =
        let t = and_both (member (take size set) d) (member (drop size set) d) e in
        let a = any_place (eqb d) (take size set) t.0 in
        let b = any_place (eqb d) (drop size set) t.1 in
        let near : a.place < size = omega (arith, a.inside, length-take-le size set fits) in
        let far : size + b.place < length set = omega (arith, b.inside, length-drop size set) in
        absurd (
        omega (
          arith,
          eqb-true d (get_or (take size set) a.place 0) a.passes,
          eqb-true d (get_or (drop size set) b.place 0) b.passes,
          get_or-take size set a.place 0 near,
          get_or-drop size set b.place 0,
          up a.place (size + b.place) (omega arith) far,
        )
        )

    go : ((member (take size set) d && member (drop size set) d) ≡ true) ⊎ ((member (take size set) d && member (drop size set) d) ≡ false)
        → (member (take size set) d && member (drop size set) d) ≡ false
    go (inl e) = absurd (both e)
    go (inr e) = e

module _ (h j : ℕ) (set : List ℕ) (u : Under h j set) where
  abbrev q : ℕ
  q = key h j (get_or set 0 0)

  -- a member is under the node
  pub member-under : (x : ℕ) → member set x ≡ true → eqb (key h j x) q ≡ true
  member-under x e =
      let f = any_place (eqb x) set e in
      eq-eqb (key h j x) q (ap (key h j) (eqb-true x (get_or set f.place 0) f.passes) ∙ u.together f.place f.inside)

  -- ---- as many as the node has documents

  module _ (full : length set ≡ 2 ^ (h - j)) where
    abbrev w : ℕ
    w = 2 ^ (h - j)

    -- the documents of the node from the first on, without a gap
    each_stands : (i : ℕ) → i < w → get_or set i 0 ≡ q * w + i
    each_stands i l =
        let last : w - 1 < length set = omega (arith, full, pow_pos (h - j)) in
        let e : i + (w - 1 - i) ≡ w - 1 = omega arith in
        let z : 0 + i ≡ i = omega arith in
        omega (
          arith,
          div-mul-le_self (get_or set 0 0) w,
          ascends_by set u.ascends 0 i (omega (arith, full)),
          ascends_by set u.ascends i (w - 1 - i) (omega (arith, full)),
          ap (λ (n : ℕ). get_or set n 0) e,
          ap (λ (n : ℕ). get_or set n 0) z,
          below_next (get_or set (w - 1) 0) (u.together (w - 1) last),
        )
      where
        below_next : (v : ℕ) → key h j v ≡ q → v < q * w + w
        below_next v e =
            let l : v / w < q + 1 = omega (arith, e) in
            omega (arith, (div-lt_iff_lt-mul {x = v} {y = q + 1} (pow_pos (h - j))).0 l)

    -- so every document of the node is a member
    under-member : (x : ℕ) → key h j x ≡ q → member set x ≡ true
    under-member x e =
        let i : ℕ = x % w in
        let small : i < w = mod-lt x (pow_pos (h - j)) in
        let here : x ≡ get_or set i 0 = sym (div-add-mod' x w) ∙ ap (λ (n : ℕ). n * w + i) e ∙ sym (each_stands i small) in
        any_at (eqb x) set i (omega (arith, full, small)) (eq-eqb x (get_or set i 0) here)

    pub member-full : (x : ℕ) → member set x ≡ eqb (key h j x) q
    member-full x = go (look (eqb (key h j x) q)) (look (member set x))
      where
        go : (eqb (key h j x) q ≡ true) ⊎ (eqb (key h j x) q ≡ false) → (member set x ≡ true) ⊎ (member set x ≡ false) → member set x ≡ eqb (key h j x) q
        go (inl e) m = under-member x (eqb-true (key h j x) q e) ∙ sym e
        go (inr e) (inl m) = m ∙ sym (member-under x m)
        go (inr e) (inr m) = m ∙ sym e
