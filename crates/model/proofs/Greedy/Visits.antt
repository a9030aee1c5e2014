-- The nodes in the order in which the search comes to them, if nothing stops it: all that live, sorted.
use Prim.Native.Nat.{ℕ, zero, suc, ◌≤◌, ◌<◌}
use native.Mathlib.Omega.{arith}
use mathlib.Core.Path.{◌≡◌, refl}
use mathlib.Core.List.{List, [], ◌∷◌}
use mathlib.Core.Bool.{Bool, true, not}
use lib.ListN.{length}
use Rattle.bits.specs.Sequences.{tally}
use Rattle.bits.proofs.Tests.{and_both, both_and}
use Rattle.bits.proofs.Tally.{tally-append, tally_le, tally_true}
use Rattle.model.specs.TopK.{Node, node}
use Rattle.model.specs.Lists.{Every, Sorted}
use Rattle.model.specs.Frontier.{nodes, all_under, place, ahead_node, Ready}
use Rattle.model.proofs.Sorting.{every_head}
use Rattle.model.proofs.Priority.{true_ahead, ahead_refl}
use Rattle.model.proofs.Greedy.Abstract.{Counted}
use Rattle.model.proofs.Greedy.Nodes.{living, leafly, documents, tally-documents, ahead-under, ahead-all-under, leaf_under}
use Rattle.model.proofs.Greedy.Frontier.{halves, halves_le, ready_name, ready_open, living_leaf, living_open}

-- at most f visits: each takes the first waiting node, and the halves of an inner node then wait
abbrev pub visits : (Node → ℕ) → (Node → Bool) → ℕ → List Node → List Node
visits count lives zero ms = []
visits count lives (suc f) [] = []
visits count lives (suc f) (node zero q ∷ ms) = node zero q ∷ visits count lives f ms
visits count lives (suc f) (node (suc l) q ∷ ms) = node (suc l) q ∷ visits count lives f (halves count lives l q ms)

-- how many nodes are to be visited
abbrev pub size : (Node → Bool) → List Node → ℕ
size lives ms = tally (living lives (λ n. true)) (all_under ms)

-- after each inner node a leaf is still to come
abbrev pub Ends : List Node → Type 0
Ends [] = Unit {0}
Ends (node zero q ∷ ns) = Ends ns
Ends (node (suc l) q ∷ ns) = (0 < length (documents ns)) × Ends ns

module _ (count : Node → ℕ) (lives : Node → Bool) (counted : Counted count lives) (h : ℕ) where
  pub visits_same : (f : ℕ) (ms : List Node) → Ready count lives h ms → size lives ms ≤ f → (p : Node → Bool)
      → tally p (visits count lives f ms) ≡ tally (living lives p) (all_under ms)
  visits_same zero ms r w p =
      omega (arith, tally_le (living lives p) (living lives (λ n. true)) (λ n e. both_and (lives n) true (and_both (lives n) (p n) e).0 refl) (all_under ms))
  visits_same (suc f) [] r w p = refl
  visits_same (suc f) (node zero q ∷ ms) r w p =
      let e = every_head lives (node zero q) ms r.alive in
      let s = living_leaf lives (λ n. true) q ms e in
      omega (arith, living_leaf lives p q ms e, visits_same f ms (ready_name count lives h q ms r) (omega arith) p)
  visits_same (suc f) (node (suc l) q ∷ ms) r w p =
      let e = every_head lives (node (suc l) q) ms r.alive in
      let s = living_open count lives counted (λ n. true) l q ms e in
      omega (arith, living_open count lives counted p l q ms e, visits_same f (halves count lives l q ms) (ready_open count lives h l q ms r) (omega arith) p)

  every_visit : (f : ℕ) (ms : List Node) → Ready count lives h ms → size lives ms ≤ f → (p : Node → Bool)
      → Every p (all_under ms) → Every p (visits count lives f ms)
  every_visit f ms r w p a =
      omega (
        arith,
        visits_same f ms r w (λ n. not (p n)),
        tally_le (living lives (λ n. not (p n))) (λ n. not (p n)) (λ n e. (and_both (lives n) (not (p n)) e).1) (all_under ms),
      )

  pub visits-sorted : (f : ℕ) (ms : List Node) → Ready count lives h ms → size lives ms ≤ f → Sorted (ahead_node count) (visits count lives f ms)
  visits-sorted zero ms r w = tt
  visits-sorted (suc f) [] r w = tt
  visits-sorted (suc f) (node zero q ∷ ms) r w =
      let n = node zero q in
      let s = living_leaf lives (λ n. true) q ms (every_head lives n ms r.alive) in
      let r' = ready_name count lives h q ms r in
      let w' : size lives ms ≤ f = omega arith in (
        every_visit f ms r' w' (ahead_node count n) (ahead-all-under count lives counted n ms r.sorted.0),
        visits-sorted f ms r' w',
      )
  visits-sorted (suc f) (node (suc l) q ∷ ms) r w =
      let n = node (suc l) q in
      let s = living_open count lives counted (λ n. true) l q ms (every_head lives n ms r.alive) in
      let r' = ready_open count lives h l q ms r in
      let w' : size lives (halves count lives l q ms) ≤ f = omega arith in
      let a = ahead-under count lives counted n (suc l) q (true_ahead (count n) (place n) (count n) (place n) (ahead_refl (count n) (place n))) in
      let b = ahead-all-under count lives counted n ms r.sorted.0 in
      let off : Node → Bool = λ m. not (ahead_node count n m) in
      let c : tally off (all_under (halves count lives l q ms)) ≡ 0 = omega (arith, halves_le count lives off l q ms, tally-append off (nodes (suc l) q) (all_under ms)) in (
        every_visit f (halves count lives l q ms) r' w' (ahead_node count n) c,
        visits-sorted f (halves count lives l q ms) r' w',
      )

  pub visits-ends : (f : ℕ) (ms : List Node) → Ready count lives h ms → size lives ms ≤ f → Ends (visits count lives f ms)
  visits-ends zero ms r w = tt
  visits-ends (suc f) [] r w = tt
  visits-ends (suc f) (node zero q ∷ ms) r w =
      let s = living_leaf lives (λ n. true) q ms (every_head lives (node zero q) ms r.alive) in
      visits-ends f ms (ready_name count lives h q ms r) (omega arith)
  visits-ends (suc f) (node (suc l) q ∷ ms) r w =
      let e = every_head lives (node (suc l) q) ms r.alive in
      let s = living_open count lives counted (λ n. true) l q ms e in
      let r' = ready_open count lives h l q ms r in
      let w' : size lives (halves count lives l q ms) ≤ f = omega arith in
      let leaf : Node → Bool = leafly (λ d. true) in
      let rest = visits count lives f (halves count lives l q ms) in (
        omega (
          arith,
          leaf_under count lives counted (suc l) q e,
          living_open count lives counted leaf l q ms e,
          tally-append (living lives leaf) (nodes (suc l) q) (all_under ms),
          visits_same f (halves count lives l q ms) r' w' leaf,
          tally-documents (λ d. true) rest,
          tally_true (documents rest),
        ),
        visits-ends f (halves count lives l q ms) r' w',
      )
