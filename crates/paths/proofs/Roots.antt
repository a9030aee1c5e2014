-- The loop that puts the ranges of the terms at the root of a path.
use Prim.Native.Nat.{ℕ, suc, ◌+◌, ◌*◌, ◌≤◌, ◌<◌}
use native.Mathlib.Numerals.{add-one}
use native.Mathlib.Omega.{arith}
use mathlib.Core.Path.{◌≡◌, sym, ap, ◌∙◌, subst}
use mathlib.Core.Logic.{◌⊎◌, inl, inr}
use mathlib.Core.List.{List, [], ◌∷◌}
use lib.ListN.{length, get_or}
use lib.Seq.{sets, length-sets}
use Rattle.bits.proofs.Tests.{le_or_lt}
use Rattle.wavelet.specs.declared.Span.{Span}
use Rattle.paths.specs.Paths.{range_in, Whole}
use Rattle.paths.proofs.Frames.{pair-first, pair_second, pair-other}

-- the first k of the ranges are there
pub record Rooting (span : ℕ → ℕ → ℕ → Span) (size n : ℕ) (path : List ℕ) (k : ℕ) : Type 0 where
  pub room : length path ≡ 468
  pub inside : k ≤ size
  pub start : get_or path 0 0 ≡ 0
  pub end : get_or path 1 0 ≡ n
  pub filled : (i : ℕ) → i < k → range_in path 0 i ≡ span 0 0 i

module _ (span : ℕ → ℕ → ℕ → Span) (size n : ℕ) (few : size ≤ 8) where
  pub rooting_start : (path after : List ℕ) → length path ≡ 468 → after ≡ sets path 0 (0 ∷ n ∷ []) → Rooting span size n after 0
  rooting_start path after r e = record {
    room = ap length e ∙ length-sets path 0 (0 ∷ n ∷ []) ∙ r;
    inside = omega arith;
    start = ap (λ (l : List ℕ). get_or l 0 0) e ∙ pair-first path 0 0 n (omega arith);
    end = ap (λ (l : List ℕ). get_or l 1 0) e ∙ pair_second path 0 0 n (omega arith);
    filled = λ i m. absurd (omega arith);
  }

  module _ {path : List ℕ} {k : ℕ} (o : Rooting span size n path k) where
    pub rooting_next : (after : List ℕ) (a b : ℕ) → k < size → span 0 0 k ≡ record { start = 0; lo = a; hi = b; end = n }
        → after ≡ sets path (2 * (1 + k)) (a ∷ b ∷ []) → Rooting span size n after (k + 1)
    rooting_next after a b l s e =
        subst (Rooting span size n after) (sym (add-one k)) (record {
          room = ap length e ∙ length-sets path (2 * (1 + k)) (a ∷ b ∷ []) ∙ o.room;
          inside = l;
          start = kept 0 (omega arith) ∙ o.start;
          end = kept 1 (omega arith) ∙ o.end;
          filled = λ i m. go i m (le_or_lt k i);
        })
      where
        fits : 2 * (1 + k) + 1 < length path
        fits = omega (arith, o.room)

        kept : (i : ℕ) → i < 2 * (1 + k) → get_or after i 0 ≡ get_or path i 0
        kept i m = ap (λ (l : List ℕ). get_or l i 0) e ∙ pair-other path (2 * (1 + k)) a b fits i (inl m)

        go : (i : ℕ) → i < suc k → (k ≤ i) ⊎ (i < k) → range_in after 0 i ≡ span 0 0 i
        go i m (inl x) =
            let same : k ≡ i = omega arith in
            subst (λ (y : ℕ). range_in after 0 y ≡ span 0 0 y) same
            ((λ t. record {
              start = (kept 0 (omega arith) ∙ o.start) t;
              lo = (ap (λ (l : List ℕ). get_or l (2 * (1 + k)) 0) e ∙ pair-first path (2 * (1 + k)) a b fits) t;
              hi = (ap (λ (l : List ℕ). get_or l (2 * (1 + k) + 1) 0) e ∙ pair_second path (2 * (1 + k)) a b fits) t;
              end = (kept 1 (omega arith) ∙ o.end) t;
            }) ∙ sym s)
        go i m (inr x) =
            (λ t. record {
              start = kept 0 (omega arith) t;
              lo = kept (2 * (1 + i)) (omega arith) t;
              hi = kept (2 * (1 + i) + 1) (omega arith) t;
              end = kept 1 (omega arith) t;
            }) ∙ o.filled i x

    pub rooting_end : size ≤ k → Whole span size path 0 0
    rooting_end l = λ i m. o.filled i (omega arith)
