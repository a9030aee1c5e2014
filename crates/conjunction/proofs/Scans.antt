-- What the sum of the counts in a frame says: 0 where a term has no entry in the node, else the frame is whole.
use Prim.Native.Nat.{ℕ, zero, suc, ◌+◌, ◌-◌, ◌≤◌, ◌<◌}
use native.Mathlib.Nat.{zero-add}
use native.Mathlib.Omega.{arith}
use mathlib.Core.Path.{◌≡◌, ap, subst}
use mathlib.Core.Logic.{◌⊎◌, inl, inr}
use mathlib.Core.List.{List, [], ◌∷◌, map}
use mathlib.Core.Bool.{Bool, true, false}
use lib.ListN.{length, length-map}
use lib.Dec.{ltb}
use borrow.Author.Tests.{ltb-true, ltb-false}
use Rattle.bits.specs.Sequences.{all, up_from, below}
use Rattle.bits.specs.Bits.{sum}
use Rattle.bits.proofs.Tests.{look, le_or_lt, and_both}
use Rattle.bits.proofs.Tally.{length-up_from}
use Rattle.wavelet.specs.declared.Span.{Span}
use Rattle.conjunction.specs.Conjunction.{common_count}
use Rattle.paths.specs.Paths.{frame_of, range_in, count_at, Whole, Right}
use Rattle.paths.proofs.Openings.{Dead}

sum-pos : (cs : List ℕ) → all (ltb 0) cs ≡ true → 1 ≤ length cs → 0 < sum cs
sum-pos [] e l = absurd (omega arith)
sum-pos (c ∷ cs) e l = omega (arith, ltb-true 0 c (and_both (ltb 0 c) (all (ltb 0) cs) e).0)

-- of counts: they are all above 0, and this is their sum, or one is 0
pub common_some : (cs : List ℕ) (n : ℕ) → n ≡ common_count cs → (n ≡ 0 → ⊥) → (all (ltb 0) cs ≡ true) × (n ≡ sum cs)
common_some cs n e z = go (look (all (ltb 0) cs))
  where
    go : (all (ltb 0) cs ≡ true) ⊎ (all (ltb 0) cs ≡ false) → (all (ltb 0) cs ≡ true) × (n ≡ sum cs)
    go (inl t) = (t, rw t at e)
    go (inr f) = absurd (z (rw f at e))

common_none : (cs : List ℕ) (n : ℕ) → n ≡ common_count cs → n ≡ 0 → 1 ≤ length cs → all (ltb 0) cs ≡ false
common_none cs n e z l = go (look (all (ltb 0) cs))
  where
    go : (all (ltb 0) cs ≡ true) ⊎ (all (ltb 0) cs ≡ false) → all (ltb 0) cs ≡ false
    go (inl t) = let s : n ≡ sum cs = rw t at e in absurd (omega (arith, sum-pos cs t l))
    go (inr f) = f

module _ (span : ℕ → ℕ → ℕ → Span) (size : ℕ) (path : List ℕ) (j q : ℕ) (r : Right span size path j q) where
  abbrev counts : ℕ → ℕ
  counts = count_at path (frame_of j q)

  -- the first k terms are known and have entries
  abbrev Seen : ℕ → Type 0
  Seen k = (i : ℕ) → i < k → (range_in path (frame_of j q) i ≡ span j q i) × ((span j q i).lo < (span j q i).hi)

  here : (k : ℕ) → k < size → Seen k → range_in path (frame_of j q) k ≡ span j q k
  here k l f = r k l (λ i m. (f i m).1)

  count_is : (k : ℕ) → k < size → Seen k → counts k ≡ (span j q k).hi - (span j q k).lo
  count_is k l f = ap (λ (s : Span). s.hi - s.lo) (here k l f)

  more : (k : ℕ) → k < size → Seen k → ltb 0 (counts k) ≡ true → Seen (suc k)
  more k l f t i m = go (le_or_lt k i)
    where
      go : (k ≤ i) ⊎ (i < k) → (range_in path (frame_of j q) i ≡ span j q i) × ((span j q i).lo < (span j q i).hi)
      go (inl a) =
          let e : k ≡ i = omega arith in
          subst (λ (x : ℕ). (range_in path (frame_of j q) x ≡ span j q x) × ((span j q x).lo < (span j q x).hi)) e
          (here k l f, omega (arith, ltb-true 0 (counts k) t, count_is k l f))
      go (inr a) = f i a

  seen : (m k : ℕ) → k + m ≡ size → Seen k → all (ltb 0) (map counts (up_from k m)) ≡ true → Seen size
  seen zero k e f t = let p : k ≡ size = omega arith in subst Seen p f
  seen (suc m) k e f t =
      let b = and_both (ltb 0 (counts k)) (all (ltb 0) (map counts (up_from (suc k) m))) t in
      seen m (suc k) (omega arith) (more k (omega arith) f b.0) b.1

  dead : (m k : ℕ) → k + m ≡ size → Seen k → all (ltb 0) (map counts (up_from k m)) ≡ false → Dead span j q size
  dead zero k e f t = absurd (let z : ◌≡◌ {A = Bool} true false = t in go z)
    where
      go : ◌≡◌ {A = Bool} true false → ⊥
      go z = let x : ◌≡◌ {A = ℕ} 0 1 = cc in omega arith
  dead (suc m) k e f t = go (look (ltb 0 (counts k))) (λ s a. dead m (suc k) (omega arith) s a)
    where
      l : k < size
      l = omega arith

      go : (ltb 0 (counts k) ≡ true) ⊎ (ltb 0 (counts k) ≡ false) → (Seen (suc k) → all (ltb 0) (map counts (up_from (suc k) m)) ≡ false → Dead span j q size) → Dead span j q size
      go (inl a) ih = ih (more k l f a) (rw a at t)
      go (inr a) ih = record { which = k; lt = l; none = omega (arith, ltb-false 0 (counts k) a, count_is k l f) }

  pub scan_whole : all (ltb 0) (map counts (below size)) ≡ true → Whole span size path j q
  scan_whole t = λ k m. (seen size 0 (zero-add size) (λ i n. absurd (omega arith)) t k m).0

  pub scan_dead : (n : ℕ) → n ≡ common_count (map counts (below size)) → n ≡ 0 → 1 ≤ size → Dead span j q size
  scan_dead n e z l =
      dead size 0 (zero-add size) (λ i n. absurd (omega arith))
      (common_none (map counts (below size)) n e z (omega (arith, length-map (below size) counts, length-up_from 0 size)))
