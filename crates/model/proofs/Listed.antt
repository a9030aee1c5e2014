-- How many documents an answer lists: no more than k, and no more than there are.
use Prim.Native.Nat.{ℕ, zero, ◌≤◌, min}
use native.Mathlib.Omega.{arith}
use native.Mathlib.Nat.{le_refl}
use mathlib.Core.List.{List, map}
use mathlib.Core.Bool.{Bool, true, false, cond}
use lib.ListN.{length, take, length-map, length-take}
use lib.Dec.{leb}
use Rattle.bits.specs.Sequences.{below}
use Rattle.bits.proofs.Tally.{tally_le_length, length-up_from}
use Rattle.model.specs.Queries.{Pair, pair_of, present, listing}
use Rattle.model.specs.TopK.{Node, node, ranking, full_list, need, need_by, covered_by, answer_by, done, spent, top_k, pairs_of}
use Rattle.model.proofs.Lists.{length-keep}
use Rattle.model.proofs.Sorting.{same_length}
use Rattle.model.proofs.Ranking.{ranking_same}
use Rattle.model.proofs.FullList.{exactly_k}
use Rattle.model.proofs.Greedy.Abstract.{need_for, ranking_of, top_k_of}
use Rattle.model.proofs.Greedy.Answers.{covered_le}
use Rattle.model.proofs.Greedy.Counts.{top_k-answer_by}

pub length-full : (N k : ℕ) (xs : List ℕ) → length (full_list N k xs) ≤ min k N
length-full N k xs =
    let ps : List Pair = map (pair_of xs) (below N) in
    omega (
      arith,
      length-take k (ranking (listing N xs)),
      same_length (ranking (listing N xs)) (listing N xs) (ranking_same (listing N xs)),
      length-keep present ps,
      tally_le_length present ps,
      length-map (below N) (pair_of xs),
      length-up_from 0 N,
    )

answer_le : (need : List Pair → ℕ) (allowance : ℕ) (ps : List Pair) → length (pairs_of (answer_by need allowance ps)) ≤ length ps
answer_le need allowance ps = go (leb (need ps) allowance)
  where
    go : (b : Bool) → length (pairs_of (cond b (done ps (need ps)) (spent (covered_by need allowance ps (length ps)) allowance))) ≤ length ps
    go true = le_refl (length ps)
    go false = omega (arith, covered_le need ps allowance (length ps), length-take (length ps) ps)

-- over any count
pub length-top_k_of : (count : Node → ℕ) (lives : Node → Bool) (h N k allowance : ℕ) → length (pairs_of (top_k_of count lives h N k allowance)) ≤ min k N
length-top_k_of count lives h N k allowance =
    omega (
      arith,
      answer_le (need_by (need_for count lives h)) allowance (take k (ranking_of count lives N)),
      exactly_k N k (λ d. count (node zero d)) (λ d. lives (node zero d)),
      tally_le_length (λ d. lives (node zero d)) (below N),
      length-up_from 0 N,
    )

-- for the count of entries
pub length-top_k : (h N : ℕ) (xs : List ℕ) (k allowance : ℕ) → length (pairs_of (top_k h N xs k allowance)) ≤ min k N
length-top_k h N xs k allowance = rw (top_k-answer_by xs h N k allowance) (omega (arith, answer_le (need h xs) allowance (full_list N k xs), length-full N k xs))
