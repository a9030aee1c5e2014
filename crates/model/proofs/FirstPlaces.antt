-- First places (document 02, M-108): as a select over the whole list, and answers that are written with them.
use Prim.Native.Nat.{ℕ, suc, ◌+◌, ◌-◌, ◌*◌, ◌≤◌, ◌<◌}
use native.Mathlib.Omega.{arith}
use mathlib.Core.Path.{◌≡◌, refl, sym, ap, ◌∙◌}
use mathlib.Core.List.{List, [], ◌∷◌}
use mathlib.Core.Bool.{Bool, true}
use lib.ListN.{length, get_or, take, drop}
use lib.Seq.{get_or-take, get_or-drop, take-take}
use lib.Dec.{eqb}
use Rattle.bits.specs.Sequences.{occurrences, rank, select, Stands}
use Rattle.bits.proofs.Sequences.{select_eq, select-stands}
use Rattle.bits.proofs.Tally.{tally-take-add}
use Rattle.model.specs.Lists.{part, Every}
use Rattle.model.specs.Queries.{Pair, first_place, flat_placed}
use Rattle.model.proofs.Lists.{length_part}
use Rattle.model.proofs.Sorting.{every_head, every_tail}

-- ---- the place

-- the first entry d of a range is the one behind those that stand before the range
module _ (d : ℕ) (xs : List ℕ) (a b : ℕ) (order : a ≤ b) (inside : b ≤ length xs) (some : 0 < occurrences d (part a b xs)) where
  abbrev p : ℕ
  p = select d (part a b xs) 1

  first : Stands d (part a b xs) 1 p
  first = select-stands d (part a b xs) 1 (omega arith) some

  pub first-place_inside : (a ≤ first_place a (part a b xs) d) × (first_place a (part a b xs) d < b)
  first-place_inside = (omega arith, omega (arith, first.inside, length_part a b xs inside))

  there : get_or xs (a + p) 0 ≡ d
  there =
      sym (get_or-drop a xs p 0) ∙ sym (get_or-take (b - a) (drop a xs) p 0 (omega (arith, first.inside, length_part a b xs inside))) ∙ first.there

  before : rank d xs (a + p) + 1 ≡ suc (rank d xs a)
  before =
      let none : occurrences d (take p (drop a xs)) + 1 ≡ 1 =
      ap (λ (l : List ℕ). occurrences d l + 1) (sym (take-take p (b - a) (drop a xs) (omega (arith, first.inside, length_part a b xs inside)))) ∙ first.before in
      omega (arith, tally-take-add (λ x. eqb d x) a p xs, none)

  pub first-place-select : first_place a (part a b xs) d ≡ select d xs (suc (rank d xs a))
  first-place-select =
      sym (select_eq d xs (a + p) (suc (rank d xs a)) (omega (arith, first.inside, length_part a b xs inside)) there before)

-- ---- answers with places

pub length-flat_placed : (place : ℕ → ℕ) (ps : List Pair) → length (flat_placed place ps) ≡ 3 * length ps
length-flat_placed place [] = refl
length-flat_placed place (p ∷ ps) = omega (arith, length-flat_placed place ps)

-- places that agree on the documents listed
pub flat_placed_same : (f g : ℕ → ℕ) (test : Pair → Bool) (ps : List Pair) → Every test ps → ((p : Pair) → test p ≡ true → f p.document ≡ g p.document)
    → flat_placed f ps ≡ flat_placed g ps
flat_placed_same f g test [] every same = refl
flat_placed_same f g test (p ∷ ps) every same =
    let first = same p (every_head test p ps every) in
    let rest = flat_placed_same f g test ps (every_tail test p ps every) same in
    (λ i. p.document ∷ p.count ∷ first i ∷ rest i)
