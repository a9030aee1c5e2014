-- For code that keeps a frontier: what holds of it from move to move, over any count, and how long it can be.
use Prim.Native.Nat.{ℕ, zero, suc, ◌^◌, ◌≤◌, ◌<◌, ◌+◌}
use native.Mathlib.Omega.{arith}
use mathlib.Core.Path.{◌≡◌, refl, ap, ◌∙◌, sym, subst₂}
use mathlib.Core.List.{List, [], ◌∷◌, map}
use mathlib.Core.Bool.{Bool, true, false, ◌&&◌, not}
use mathlib.Core.Logic.{inl, inr}
use lib.ListN.{length, length-map}
use lib.Dec.{eqb, ltb}
use borrow.Author.Tests.{lt-ltb, eq-eqb}
use Rattle.bits.specs.Sequences.{tally, below}
use Rattle.bits.proofs.Tally.{tally-append, tally_le_length, length-up_from, tally-map}
use Rattle.bits.proofs.Tests.{or_left, or_right, both_and}
use Rattle.model.specs.Lists.{Every}
use Rattle.model.specs.TopK.{Node, node, start}
use Rattle.model.specs.Search.{Waiting, wait, wait_halves, move_of, prior}
use Rattle.model.specs.Frontier.{waiting, nodes, all_under, Ready, blocks, Waits, ahead_node, under, place}
use Rattle.model.proofs.Sorting.{every_head, every_tail, every_cons}
use Rattle.model.proofs.Greedy.Abstract.{Counted}
use Rattle.model.proofs.Greedy.Nodes.{living, leafly, leaf_under, living-documents, start_leaf, start_le_place, place_le_start}
use Rattle.model.proofs.Greedy.Frontier.{join, halves, ready_root, ready_name, ready_open, ready_apart, prior_node}
use Rattle.model.proofs.Greedy.Moves.{wait-join, wait-halves}
use Rattle.model.proofs.Greedy.Counts.{outside}
use Rattle.model.proofs.Priority.{Ahead, ahead_true}

pub blocks-waiting : (count : Node → ℕ) (ms : List Node) → blocks (map (waiting count) ms) ≡ ms
blocks-waiting count [] = refl
blocks-waiting count (m ∷ ms) = ap (λ (r : List Node). m ∷ r) (blocks-waiting count ms)

abbrev behind : List Waiting → List Waiting
behind [] = []
behind (w ∷ ws) = ws

module _ (count : Node → ℕ) (lives : Node → Bool) (h : ℕ) where
  waits_of : (frontier : List Waiting) (ms : List Node) → frontier ≡ map (waiting count) ms → Ready count lives h ms → Waits count lives h frontier
  waits_of frontier ms e r =
      let b : blocks frontier ≡ ms = ap blocks e ∙ blocks-waiting count ms in
      record { counts = rw b e; ready = rw b r }

  pub waits_root : Waits count lives h (wait count lives (node h 0) [])
  waits_root = waits_of (wait count lives (node h 0) []) (join count lives (node h 0) []) (wait-join count lives (node h 0) []) (ready_root count lives h)

  -- every move leaves such a frontier
  pub waits_move : (left : ℕ) (n : Node) (c : ℕ) (rest : List Waiting) → Waits count lives h (record { block = n; count = c } ∷ rest)
      → Waits count lives h (move_of count lives left n c rest).waiting
  waits_move left (node zero q) c rest w = record { counts = ap behind w.counts; ready = ready_name count lives h q (blocks rest) w.ready }
  waits_move zero (node (suc l) q) c rest w = w
  waits_move (suc left) (node (suc l) q) c rest w =
      waits_of (wait_halves count lives l q rest) (halves count lives l q (blocks rest))
      (ap (wait_halves count lives l q) (ap behind w.counts) ∙ wait-halves count lives l q (blocks rest))
      (ready_open count lives h l q (blocks rest) w.ready)

-- ---- the first of the waiting nodes has the largest count and, among equal counts, the lowest start

module _ (count : Node → ℕ) (n : Node) where
  -- nodes behind n that have no number in common with it
  prior-all : (ms : List Node) → Every (ahead_node count n) ms
      → tally (leafly (eqb (start n))) (under n) + tally (leafly (eqb (start n))) (all_under ms) ≤ 1 → Every (prior_node count n) ms
  prior-all [] a u = refl
  prior-all (m ∷ ms) a u =
      let apart = tally-append (leafly (eqb (start n))) (under m) (all_under ms) in
      every_cons (prior_node count n) m ms (one (ahead_true (count n) (place n) (count m) (place m) (every_head (ahead_node count n) m ms a)))
      (prior-all ms (every_tail (ahead_node count n) m ms a) (omega arith))
    where
      differ : start n ≡ start m → ⊥
      differ e =
          let here = start_leaf n in
          let there = rw (← e) at (start_leaf m) in
          omega (arith, tally-append (leafly (eqb (start n))) (under m) (all_under ms))

      one : Ahead (count n) (place n) (count m) (place m) → prior_node count n m ≡ true
      one (inl l) = or_left (ltb (count m) (count n)) (eqb (count m) (count n) && ltb (start n) (start m)) (lt-ltb (count m) (count n) l)
      one (inr (e, l)) =
          let below : start n < start m = omega (arith, differ, start_le_place n, place_le_start m) in
          or_right (ltb (count m) (count n)) (eqb (count m) (count n) && ltb (start n) (start m))
          (both_and (eqb (count m) (count n)) (ltb (start n) (start m)) (eq-eqb (count m) (count n) e) (lt-ltb (start n) (start m) below))

-- "It concerns the waiting block of largest count, equal counts by lower start"
pub first-prior : (count : Node → ℕ) (lives : Node → Bool) (h : ℕ) (w : Waiting) (rest : List Waiting)
    → Waits count lives h (w ∷ rest) → Every (prior w) rest
first-prior count lives h w rest W =
    let n : Node = w.block in
    let ms : List Node = blocks rest in
    let apart = ready_apart count lives h (n ∷ ms) W.ready (start n) in
    let e : Every (prior (waiting count n)) (map (waiting count) ms) =
    tally-map (λ v. not (prior (waiting count n) v)) (waiting count) ms
    ∙ prior-all count n ms W.ready.sorted.0 (omega (arith, tally-append (leafly (eqb (start n))) (under n) (all_under ms))) in
    let head : w ≡ waiting count n = ap (first w) W.counts in
    let others : rest ≡ map (waiting count) ms = ap behind W.counts in
    subst₂ (λ (v : Waiting) (vs : List Waiting). Every (prior v) vs) (sym head) (sym others) e
  where
    first : Waiting → List Waiting → Waiting
    first v [] = v
    first v (x ∷ xs) = x

-- ---- at most N nodes wait: each holds a document of its own

module _ (count : Node → ℕ) (lives : Node → Bool) (counted : Counted count lives) where
  length_le_leaves : (ms : List Node) → Every lives ms → length ms ≤ tally (living lives (leafly (λ d. true))) (all_under ms)
  length_le_leaves [] a = omega arith
  length_le_leaves (node l q ∷ ms) a =
      omega (
        arith,
        tally-append (living lives (leafly (λ d. true))) (nodes l q) (all_under ms),
        leaf_under count lives counted l q (every_head lives (node l q) ms a),
        length_le_leaves ms (every_tail lives (node l q) ms a),
      )

  pub waits_length : (h N : ℕ) → N ≤ 2 ^ h → ((d : ℕ) → N ≤ d → d < 2 ^ h → lives (node zero d) ≡ false)
      → (frontier : List Waiting) → Waits count lives h frontier → length frontier ≤ N
  waits_length h N fits outside frontier w =
      let leaf : Node → Bool = leafly (λ d. true) in
      omega (
        arith,
        length-map frontier (λ v. v.block),
        length_le_leaves (blocks frontier) w.ready.alive,
        w.ready.inside (living lives leaf),
        living-documents lives h N fits outside (λ d. true),
        tally_le_length (λ d. lives (node zero d) && true) (below N),
        length-up_from 0 N,
      )
