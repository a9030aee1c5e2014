-- All nodes of a tree that live, in the order of the search: their documents are the ranking, and the inner nodes before each are its need.
use Prim.Native.Nat.{ℕ, zero, suc, ◌+◌, ◌^◌, ◌≤◌, ◌<◌}
use native.Mathlib.Omega.{arith}
use mathlib.Core.Path.{◌≡◌, sym, ap, ◌∙◌, fun_ext}
use mathlib.Core.Logic.{inl, inr}
use mathlib.Core.List.{List, [], ◌∷◌, map}
use mathlib.Core.Bool.{Bool, true, false}
use lib.ListN.{take}
use Rattle.bits.specs.Sequences.{tally, below}
use Rattle.bits.proofs.Tally.{tally-map, tally_le_length}
use Rattle.model.specs.Lists.{keep, Sorted}
use Rattle.model.specs.Queries.{Pair}
use Rattle.model.specs.TopK.{Node, node, ahead_pair}
use Rattle.model.specs.Frontier.{nodes, place, ahead_node}
use Rattle.model.proofs.Lists.{tally-keep}
use Rattle.model.proofs.Sorting.{sorted_unique}
use Rattle.model.proofs.Priority.{Ahead, ahead_true, true_ahead}
use Rattle.model.proofs.Ranking.{pair_refl, pair_antisymm, ranking-sorted, ranking_same}
use Rattle.model.proofs.Greedy.Abstract.{Counted, leaf_pair, ranking_of, need_by, need_for}
use Rattle.model.proofs.Greedy.Nodes.{length-nodes, living, leafly, documents, tally-documents, living-documents}
use Rattle.model.proofs.Greedy.Frontier.{join, ready_root, join-living}
use Rattle.model.proofs.Greedy.Visits.{visits, size, Ends, visits_same, visits-sorted, visits-ends}
use Rattle.model.proofs.Greedy.Moves.{toll_of, pairs_in}
use Rattle.model.proofs.Greedy.Need.{every_pair, need-toll, innerly, wanted, need-living}

abbrev pub root : (Node → ℕ) → (Node → Bool) → ℕ → List Node
root count lives h = join count lives (node h 0) []

-- all visits; the fuel is any number from 2 ^ suc h
abbrev pub order : (Node → ℕ) → (Node → Bool) → ℕ → ℕ → List Node
order count lives h f = visits count lives (f + 2 ^ suc h) (root count lives h)

-- ---- sorted nodes have sorted documents

leaf_pair_lem : (count : Node → ℕ) (d e : ℕ) → ahead_node count (node zero d) (node zero e) ≡ true → ahead_pair (leaf_pair count d) (leaf_pair count e) ≡ true
leaf_pair_lem count d e h =
    true_ahead (count (node zero d)) d (count (node zero e)) e
    (go (ahead_true (count (node zero d)) (place (node zero d)) (count (node zero e)) (place (node zero e)) h))
  where
    go : Ahead (count (node zero d)) (place (node zero d)) (count (node zero e)) (place (node zero e))
        → Ahead (count (node zero d)) d (count (node zero e)) e
    go (inl a) = inl a
    go (inr b) = inr (omega arith)

pairs-sorted : (count : Node → ℕ) (ns : List Node) → Sorted (ahead_node count) ns → Sorted ahead_pair (pairs_in count ns)
pairs-sorted count [] s = tt
pairs-sorted count (node zero d ∷ ns) s =
    (every_pair count (ahead_node count (node zero d)) (ahead_pair (leaf_pair count d)) (leaf_pair_lem count d) ns s.0, pairs-sorted count ns s.1)
pairs-sorted count (node (suc l) q ∷ ns) s = pairs-sorted count ns s.1

module _ (count : Node → ℕ) (lives : Node → Bool) (counted : Counted count lives) (h f : ℕ) where
  size-root : size lives (root count lives h) ≤ f + 2 ^ suc h
  size-root =
      omega (
        arith,
        join-living count lives counted (λ n. true) h 0 [],
        tally_le_length (living lives (λ n. true)) (nodes h 0),
        length-nodes h 0,
      )

  order-sorted : Sorted (ahead_node count) (order count lives h f)
  order-sorted = visits-sorted count lives counted h (f + 2 ^ suc h) (root count lives h) (ready_root count lives h) size-root

  pub order-ends : Ends (order count lives h f)
  order-ends = visits-ends count lives counted h (f + 2 ^ suc h) (root count lives h) (ready_root count lives h) size-root

  order_same : (p : Node → Bool) → tally p (order count lives h f) ≡ tally (living lives p) (nodes h 0)
  order_same p =
      omega (
        arith,
        visits_same count lives counted h (f + 2 ^ suc h) (root count lives h) (ready_root count lives h) size-root p,
        join-living count lives counted p h 0 [],
      )

  -- the need of a front part of the documents
  pub order-need : (m : ℕ)
      → need_by (need_for count lives h) (take m (pairs_in count (order count lives h f)))
      ≡ toll_of (order count lives h f) (take m (pairs_in count (order count lives h f)))
  order-need m =
      ap (λ (g : Pair → ℕ). need_by g (take m (pairs_in count (order count lives h f))))
      (fun_ext (λ p. need-living count lives h p ∙ sym (order_same (innerly (wanted count p)))))
      ∙ need-toll count (order count lives h f) order-sorted m

  -- ---- the documents are the ranking, where only numbers below N live

  module _ (N : ℕ) (fits : N ≤ 2 ^ h) (outside : (d : ℕ) → N ≤ d → d < 2 ^ h → lives (node zero d) ≡ false) where
    order-documents : (p : Pair → Bool) → tally p (pairs_in count (order count lives h f)) ≡ tally p (ranking_of count lives N)
    order-documents p =
        let alive : ℕ → Bool = λ d. lives (node zero d) in
        let passes : ℕ → Bool = λ d. p (leaf_pair count d) in
        tally-map p (leaf_pair count) (documents (order count lives h f))
        ∙ tally-documents passes (order count lives h f)
        ∙ order_same (leafly passes)
        ∙ living-documents lives h N fits outside passes
        ∙ sym (ranking_same (map (leaf_pair count) (keep alive (below N))) p ∙ tally-map p (leaf_pair count) (keep alive (below N))
        ∙ tally-keep passes alive (below N))

    pub order-ranking : pairs_in count (order count lives h f) ≡ ranking_of count lives N
    order-ranking =
        sorted_unique ahead_pair pair_refl pair_antisymm (pairs_in count (order count lives h f)) (ranking_of count lives N)
        (pairs-sorted count (order count lives h f) order-sorted)
        (ranking-sorted (map (leaf_pair count) (keep (λ d. lives (node zero d)) (below N)))) order-documents
