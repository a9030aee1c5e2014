-- The loop that sums the counts of a node, and stops where one is 0.
use Prim.Native.Nat.{ℕ, suc, ◌+◌, ◌-◌, ◌*◌, ◌^◌, ◌≤◌, ◌<◌}
use native.Mathlib.Numerals.{add-one}
use native.Mathlib.Nat.{zero-add, sub-zero}
use native.Mathlib.Omega.{arith}
use mathlib.Core.Path.{◌≡◌, sym, ap, ◌∙◌, subst}
use mathlib.Core.List.{List, ◌∷◌, map}
use mathlib.Core.Bool.{cond}
use lib.Dec.{ltb}
use borrow.Author.Tests.{lt-ltb, le-ltb}
use Rattle.bits.specs.Sequences.{all, up_from, below}
use Rattle.bits.specs.Bits.{sum}
use Rattle.conjunction.specs.Conjunction.{common_count}

-- a sum so far, and the counts that are left
abbrev rest : ℕ → List ℕ → ℕ
rest so_far cs = cond (all (ltb 0) cs) (so_far + sum cs) 0

module _ (c : ℕ → ℕ) (size : ℕ) where
  -- before count k
  pub record Counting (so_far k : ℕ) : Type 0 where
    pub inside : k ≤ size
    pub same : rest so_far (map c (up_from k (size - k))) ≡ common_count (map c (below size))
    pub few : so_far ≤ k * 2 ^ 32

  pub counting_start : Counting 0 0
  counting_start = record {
    inside = omega arith;
    same =
        ap (λ (n : ℕ). rest 0 (map c (up_from 0 n))) (sub-zero size)
        ∙ (λ i. cond (all (ltb 0) (map c (below size))) (zero-add (sum (map c (below size))) i) 0);
    few = omega arith;
  }

  module _ {so_far k : ℕ} (o : Counting so_far k) where
    step : k < size → rest so_far (c k ∷ map c (up_from (suc k) (size - suc k))) ≡ common_count (map c (below size))
    step l =
        let e : suc (size - suc k) ≡ size - k = omega arith in
        ap (λ (n : ℕ). rest so_far (map c (up_from k n))) e ∙ o.same

    pub counting_next : k < size → 0 < c k → c k < 2 ^ 32 → Counting (so_far + c k) (k + 1)
    counting_next l p b =
        subst (Counting (so_far + c k)) (sym (add-one k)) (record {
          inside = l;
          same =
              (λ i. cond (all (ltb 0) (map c (up_from (suc k) (size - suc k)))) (grouped i) 0)
              ∙ (rw (lt-ltb 0 (c k) p) at (step l));
          few = let f = o.few in omega arith;
        })
      where
        grouped : so_far + c k + sum (map c (up_from (suc k) (size - suc k))) ≡ so_far + (c k + sum (map c (up_from (suc k) (size - suc k))))
        grouped = omega arith

    pub counting_none : k < size → c k ≤ 0 → 0 ≡ common_count (map c (below size))
    counting_none l z = rw (le-ltb 0 (c k) z) at (step l)

    pub counting_end : size ≤ k → so_far ≡ common_count (map c (below size))
    counting_end l =
        let e : 0 ≡ size - k = omega arith in
        let z : so_far ≡ so_far + 0 = omega arith in
        z ∙ ap (λ (n : ℕ). rest so_far (map c (up_from k n))) e ∙ o.same
