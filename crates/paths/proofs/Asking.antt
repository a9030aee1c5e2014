-- Refusals 10 and 11 of the terms of a question, whatever it answers otherwise.
use Prim.Native.Nat.{ℕ}
use mathlib.Core.Path.{◌≡◌, refl, ap}
use mathlib.Core.List.{List}
use mathlib.Core.Bool.{Bool, true, false, ◌||◌}
use lib.ListN.{take}
use lib.Dec.{leb, ltb, eqb}
use Rattle.model.specs.Lists.{any}
use Rattle.model.specs.Outcome.{Outcome, answered, refused, refuse}
use Rattle.paths.specs.Chosen.{asking}

module _ {A B : Type 0} (W : ℕ) (numbers : List ℕ) (size : ℕ) (x : B) (rest : Outcome A) where
  -- refused there, refused here
  pub asking_refused : (number : ℕ) → refused number ≡ asking W numbers size (answered x) → refused number ≡ asking W numbers size rest
  asking_refused number = go (eqb size 0 || ltb 8 size) (any (leb W) (take size numbers))
    where
      go : (few known : Bool) → ◌≡◌ {A = Outcome B} (refused number) (refuse 10 few (refuse 11 known (answered x))) → refused number ≡ refuse 10 few (refuse 11 known rest)
      go true known e = let n : number ≡ 10 = cc in ap refused n
      go false true e = let n : number ≡ 11 = cc in ap refused n
      go false false e = cc

  -- neither of them, there or here
  pub asking_known : (y : B) → answered y ≡ asking W numbers size (answered x) → rest ≡ asking W numbers size rest
  asking_known y = go (eqb size 0 || ltb 8 size) (any (leb W) (take size numbers))
    where
      go : (few known : Bool) → answered y ≡ refuse 10 few (refuse 11 known (answered x)) → rest ≡ refuse 10 few (refuse 11 known rest)
      go true known e = cc
      go false true e = cc
      go false false e = refl
