-- Demand 3, sentence by sentence, of the full list, of its need, and of the longest front part that an allowance covers: the laws of `model/proofs`, which
-- are over any count and any need, for the count of entries.
use Prim.Native.Nat.{ℕ, ◌≤◌, ◌<◌, min}
use native.Mathlib.Omega.{arith}
use mathlib.Core.Path.{◌≡◌, refl, sym, ap, ◌∙◌, subst}
use mathlib.Core.Logic.{◌⊎◌, inl, inr}
use mathlib.Core.List.{List, [], ◌∷◌}
use mathlib.Core.Bool.{Bool, ◌&&◌, ◌||◌}
use lib.ListN.{length, take}
use lib.Dec.{leb, ltb, eqb}
use borrow.Author.Tests.{lt-ltb, ltb-false}
use Rattle.bits.specs.Sequences.{tally, below, occurrences}
use Rattle.bits.proofs.Tests.{le_or_lt}
use Rattle.model.specs.Lists.{Every, Sorted, Within}
use Rattle.model.specs.Queries.{Pair, pair_of, present}
use Rattle.model.specs.TopK.{start, count_in, inner_nodes, ahead, ranking, full_list, last, need, covered}
use Rattle.model.proofs.Lists.{keep-map}
use Rattle.model.proofs.FullList as any
use Rattle.model.proofs.FullList.{full_by}
use Rattle.model.proofs.Covering as any-need
use Rattle.model.proofs.Covering.{Longest}
use Rattle.model.proofs.Greedy.Counts.{count_leaf, outside, covered-covered_by}

-- ---- the full list

module _ (N k : ℕ) (xs : List ℕ) where
  abbrev count : ℕ → ℕ
  count d = occurrences d xs

  abbrev occurs : ℕ → Bool
  occurs d = ltb 0 (occurrences d xs)

  -- the documents that occur, with their counts
  full_is : full_by N k count occurs ≡ full_list N k xs
  full_is = ap (λ (ps : List Pair). take k (ranking ps)) (sym (keep-map present (pair_of xs) (below N)))

  -- "the full list has exactly k .. sheets of the range, or all if it has fewer"
  pub exactly_k : length (full_list N k xs) ≡ min k (tally occurs (below N))
  exactly_k = ap length (sym full_is) ∙ any.exactly_k N k count occurs

  pub of_the_range : Every (λ p. ltb 0 (occurrences p.document xs)) (full_list N k xs)
  of_the_range = subst (Every (λ p. ltb 0 (occurrences p.document xs))) full_is (any.all_pass N k count occurs)

  -- ".. different sheets"
  pub different : (d : ℕ) → tally (λ p. eqb d p.document) (full_list N k xs) ≤ 1
  different = subst (λ (ps : List Pair). (d : ℕ) → tally (λ p. eqb d p.document) ps ≤ 1) full_is (any.different N k count occurs)

  -- "each with its exact count"
  pub exact_count : Every (λ p. eqb p.count (occurrences p.document xs)) (full_list N k xs)
  exact_count = subst (Every (λ p. eqb p.count (occurrences p.document xs))) full_is (any.exact_count N k count occurs)

  -- "larger counts first and equal counts by lower sheet number"
  pub in_order : Sorted ahead (full_list N k xs)
  in_order = subst (Sorted ahead) full_is (any.in_order N k count occurs)

  -- "and every other sheet of the range comes after those listed"
  pub others_after : Within N xs → (d : ℕ) → 0 < occurrences d xs
      → (0 < tally (λ p. eqb d p.document) (full_list N k xs)) ⊎ Every (λ p. ahead p (pair_of xs d)) (full_list N k xs)
  others_after within d some = go (le_or_lt N d)
    where
      After : List Pair → Type 0
      After ps = (0 < tally (λ p. eqb d p.document) ps) ⊎ Every (λ p. ahead p (pair_of xs d)) ps

      go : (N ≤ d) ⊎ (d < N) → After (full_list N k xs)
      go (inl l) = absurd (omega (arith, ltb-false 0 (occurrences d xs) (sym (ap (ltb 0) (count_leaf xs d)) ∙ outside N xs within d l)))
      go (inr l) = subst After full_is (any.others_after N k count occurs d l (lt-ltb 0 (occurrences d xs) some))

-- ---- the need

-- "an empty list needs none"
pub needs_none : (h : ℕ) (xs : List ℕ) → need h xs [] ≡ 0
needs_none h xs = refl

-- "Its need is the number of blocks of two or more numbers in the wavelet tree whose count in the range is above the last listed count,
-- or equal to it with a start not above the last listed sheet"
pub needs : (h : ℕ) (xs : List ℕ) (p : Pair) (ps : List Pair)
    → need h xs (p ∷ ps)
    ≡ tally (λ n. ltb (last p ps).count (count_in xs n) || eqb (count_in xs n) (last p ps).count && leb (start n) (last p ps).document) (inner_nodes h)
needs h xs p ps = refl

-- the longest front part whose need the allowance covers
pub longest_covered : (h : ℕ) (xs : List ℕ) (allowance : ℕ) (ps : List Pair) (m : ℕ) → Longest (need h xs) allowance ps m (covered h xs allowance ps m)
longest_covered h xs allowance ps m =
    subst (Longest (need h xs) allowance ps m) (sym (covered-covered_by xs h allowance ps m)) (any-need.longest_covered (need h xs) refl allowance ps m)
