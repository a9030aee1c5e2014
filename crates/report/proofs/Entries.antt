-- The counts of the documents that are listed add up to no more than the entries of the range.
use Prim.Native.Nat.{ℕ, zero, suc, ◌+◌, ◌≤◌}
use native.Mathlib.Omega.{arith}
use mathlib.Core.Path.{◌≡◌, refl, ap}
use mathlib.Core.List.{List, [], ◌∷◌, map}
use mathlib.Core.Bool.{Bool, true, false, cond}
use lib.ListN.{length, take}
use lib.Seq.{take-length}
use Rattle.bits.specs.Bits.{sum}
use Rattle.bits.specs.Sequences.{below, occurrences, rank}
use Rattle.bits.proofs.Tally.{tally_le_length}
use Rattle.model.specs.Lists.{keep, insert_by, sort_by}
use Rattle.model.specs.Queries.{Pair, pair_of, present, listing}
use Rattle.model.specs.TopK.{ahead, ranking, full_list}
use Rattle.model.specs.RankSet.{member}
use Rattle.model.proofs.RankSet.Ascending.{ascending-below}
use Rattle.model.proofs.RankSet.Counts.{rank-set-sum}

-- the sum of the counts
abbrev pub entries_of : List Pair → ℕ
entries_of [] = 0
entries_of (p ∷ ps) = p.count + entries_of ps

-- a front part, and those that are kept, have no more
pub entries-take : (k : ℕ) (ps : List Pair) → entries_of (take k ps) ≤ entries_of ps
entries-take zero ps = omega arith
entries-take (suc k) [] = omega arith
entries-take (suc k) (p ∷ ps) = omega (arith, entries-take k ps)

entries-keep : (t : Pair → Bool) (ps : List Pair) → entries_of (keep t ps) ≤ entries_of ps
entries-keep t [] = omega arith
entries-keep t (p ∷ ps) = go (t p) (entries-keep t ps)
  where
    go : (b : Bool) → entries_of (keep t ps) ≤ entries_of ps → entries_of (cond b (p ∷ keep t ps) (keep t ps)) ≤ p.count + entries_of ps
    go true l = omega arith
    go false l = omega arith

-- in another order as many
entries-insert : (t : Pair → Pair → Bool) (p : Pair) (qs : List Pair) → entries_of (insert_by t p qs) ≡ p.count + entries_of qs
entries-insert t p [] = refl
entries-insert t p (q ∷ qs) = go (t p q) (entries-insert t p qs)
  where
    go : (b : Bool) → entries_of (insert_by t p qs) ≡ p.count + entries_of qs
        → entries_of (cond b (p ∷ q ∷ qs) (q ∷ insert_by t p qs)) ≡ p.count + (q.count + entries_of qs)
    go true e = refl
    go false e = omega arith

entries_sort : (t : Pair → Pair → Bool) (ps : List Pair) → entries_of (sort_by t ps) ≡ entries_of ps
entries_sort t [] = refl
entries_sort t (p ∷ ps) = omega (arith, entries-insert t p (sort_by t ps), entries_sort t ps)

module _ (xs : List ℕ) where
  entries-map : (ds : List ℕ) → entries_of (map (pair_of xs) ds) ≡ sum (map (λ d. rank d xs (length xs)) ds)
  entries-map [] = refl
  entries-map (d ∷ ds) = omega (arith, entries-map ds, ap (occurrences d) (take-length xs))

  -- each entry of the range is one document's
  entries_below : (N : ℕ) → entries_of (map (pair_of xs) (below N)) ≤ length xs
  entries_below N =
      omega (
        arith,
        entries-map (below N),
        rank-set-sum (below N) xs (length xs) (ascending-below N),
        tally_le_length (member (below N)) (take (length xs) xs),
        ap length (take-length xs),
      )

  pub entries-full : (N k : ℕ) → entries_of (full_list N k xs) ≤ length xs
  entries-full N k =
      omega (
        arith,
        entries-take k (ranking (listing N xs)),
        entries_sort ahead (listing N xs),
        entries-keep present (map (pair_of xs) (below N)),
        entries_below N,
      )
