-- Laws of ways: the node above, and the path that goes with them.
use Prim.Native.Nat.{ℕ, zero, suc, ◌+◌, ◌-◌, ◌*◌, ◌/◌, ◌^◌, ◌≤◌, ◌<◌}
use native.Mathlib.Omega.{arith}
use native.Mathlib.Nat.{div-one, div-div-eq-div-mul, pow-suc}
use lib.Pow.{shr_lt}
use mathlib.Core.Path.{◌≡◌, sym, ap, ◌∙◌, subst}
use mathlib.Core.List.{List}
use lib.ListN.{length}
use Rattle.paths.specs.declared.Node.{Node}
use Rattle.paths.specs.Paths.{Claim, HeldBy}
use Rattle.paths.specs.Ways.{Inside, on_way, Meets}
use Rattle.paths.proofs.Frames.{held_above, held-beside}

-- one level up
pub way_up : (x : Node) (j : ℕ) → j < x.level → on_way x (j + 1) / 2 ≡ on_way x j
way_up x j l =
    let e : x.level - j ≡ suc (x.level - (j + 1)) = omega arith in
    div-div-eq-div-mul x.number (2 ^ (x.level - (j + 1))) 2 ∙ sym (ap (λ (d : ℕ). x.number / 2 ^ d) e ∙ ap (λ (d : ℕ). x.number / d) (pow-suc 2 (x.level - (j + 1))))

-- at its own level
pub way_end : (x : Node) (j : ℕ) → j ≡ x.level → on_way x j ≡ x.number
way_end x j e =
    let z : x.level - j ≡ 0 = omega arith in
    ap (λ (d : ℕ). x.number / 2 ^ d) z ∙ div-one x.number

pub way_lt : (x : Node) (j : ℕ) → Inside x → j ≤ x.level → on_way x j < 2 ^ j
way_lt x j i l =
    let e : j + (x.level - j) ≡ x.level = omega arith in
    shr_lt j (x.level - j) (subst (λ (d : ℕ). x.number < 2 ^ d) (sym e) i.few)

-- at the root all ways meet
pub way_above : (x y : Node) (j : ℕ) → Inside x → Inside y → j ≤ x.level → j ≤ y.level → (on_way x j / 2 ≡ on_way y j / 2 → ⊥) → 1 ≤ j
way_above x y zero i k l m n =
    let a = way_lt x 0 i l in
    let b = way_lt y 0 k m in
    absurd (n (omega arith))
way_above x y (suc j) i k l m n = omega arith

-- ---- the loop that goes down

pub record Going (C : Claim) (path : List ℕ) (y : Node) (j : ℕ) : Type 0 where
  pub room : length path ≡ 468
  pub above : j ≤ y.level
  pub held : HeldBy C path j (on_way y j)

module _ (C : Claim) where
  pub going_start : (path : List ℕ) (x y : Node) (j : ℕ) → length path ≡ 468 → Meets x y j → HeldBy C path x.level x.number → Going C path y j
  going_start path x y j n m h =
      let l = m.here in
      record {
        room = n;
        above = m.there;
        held = held-beside C path j (on_way x j) (on_way y j) m.same (held_above C path (x.level - j) j x.level x.number (omega arith) h);
      }

  pub going_next : (after : List ℕ) (y : Node) (j : ℕ) → length after ≡ 468 → j < y.level → HeldBy C after (j + 1) (2 * on_way y j) → Going C after y (j + 1)
  going_next after y j n l h =
      let e : 2 * on_way y j / 2 ≡ on_way y j = omega arith in
      record { room = n; above = omega arith; held = held-beside C after (j + 1) (2 * on_way y j) (on_way y (j + 1)) (e ∙ sym (way_up y j l)) h }

  pub going_end : {path : List ℕ} {y : Node} {j : ℕ} → Going C path y j → y.level ≤ j → HeldBy C path y.level y.number
  going_end {path} {y} {j} o l =
      let a = o.above in
      let e : j ≡ y.level = omega arith in
      subst (λ (i : ℕ). HeldBy C path i y.number) e (subst (HeldBy C path j) (way_end y j e) o.held)
