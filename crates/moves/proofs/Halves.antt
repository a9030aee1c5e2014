-- Opening a node: the records of its halves, and the queue in which they wait.
use Prim.Native.Nat.{ℕ, suc, ◌+◌, ◌*◌, ◌^◌, ◌≤◌}
use native.Mathlib.Omega.{arith}
use mathlib.Core.Path.{◌≡◌, sym, ap, ◌∙◌}
use mathlib.Core.List.{List, [], ◌∷◌, ◌++◌, map, tail}
use mathlib.Core.Bool.{Bool, true, false, ◌||◌}
use lib.ListN.{length, length-map}
use lib.Dec.{eqb}
use lib.Pow.{pow_pos}
use Rattle.bits.specs.Sequences.{tally}
use Rattle.bits.proofs.Tally.{tally-append}
use Rattle.frontier.specs.declared.Record.{Record}
use Rattle.frontier.specs.Priority.{ahead, insert}
use Rattle.frontier.specs.Heap.{queue}
use Rattle.frontier.proofs.Callers.{Each}
use Rattle.frontier.proofs.Queue.{length-queue}
use Rattle.model.specs.TopK.{Node, node}
use Rattle.model.specs.Lists.{Every, insert_by}
use Rattle.model.specs.Frontier.{nodes, all_under}
use Rattle.model.proofs.Sorting.{every_head, every_tail, insert_same, same_length}
use Rattle.model.proofs.Greedy.Nodes.{leafly, first_leaf}
use Rattle.model.proofs.Greedy.Frontier.{prior_node, halves, ready_apart, ready_open}
use Rattle.moves.specs.Ground.{Ground, record_in}
use Rattle.moves.proofs.Grounds.{Sound}
use Rattle.moves.proofs.Tree.{in_tree, tree_low, tree_high, ready_tree}
use Rattle.moves.proofs.Records.{ahead-prior, ahead_each, each_insert, insert_record}
use Rattle.moves.proofs.Kept.{ready_length, Front, front_tree}

-- ---- the queue after an opening

length_tail : {A : Type 0} (xs : List A) → length xs ≤ suc (length (tail xs))
length_tail [] = omega arith
length_tail (x ∷ xs) = omega arith

module _ (G : Ground) (ok : Sound G) (w : List ℕ) (m : ℕ) (r : Record) (l q : ℕ) (ms : List Node)
    (F : Front G w m r (suc l) q ms) where
  abbrev h : ℕ
  h = G.height

  abbrev low : Node
  low = node l (2 * q)

  abbrev high : Node
  high = node l (2 * q + 1)

  t : in_tree h (node (suc l) q) ≡ true
  t = front_tree G w m r (suc l) q ms F

  others : Every (in_tree h) ms
  others = every_tail (in_tree h) (node (suc l) q) ms (ready_tree G.count G.lives h (node (suc l) q ∷ ms) F.ready)

  -- no leaf is under two of the halves and the other nodes
  spread : (v : ℕ) → tally (leafly (eqb v)) (nodes l (2 * q)) + tally (leafly (eqb v)) (nodes l (2 * q + 1)) + tally (leafly (eqb v)) (all_under ms) ≤ 1
  spread v =
      omega (
        arith,
        ready_apart G.count G.lives h (node (suc l) q ∷ ms) F.ready v,
        tally-append (leafly (eqb v)) (nodes l (2 * q) ++ nodes l (2 * q + 1)) (all_under ms),
        tally-append (leafly (eqb v)) (nodes l (2 * q)) (nodes l (2 * q + 1)),
      )

  abbrev Behind : Node → Node → Type 0
  Behind n y = ahead (record_in G n) (record_in G y) ≡ prior_node G.count n y

  high_each : Each (Behind high) ms
  high_each =
      ahead_each G ok.low high ms (tree_high h l q t) others
      (omega (arith, spread ((2 * q + 1) * 2 ^ l), first_leaf l (2 * q + 1)))

  low_each : Each (Behind low) ms
  low_each =
      ahead_each G ok.low low ms (tree_low h l q t) others
      (omega (arith, spread (2 * q * 2 ^ l), first_leaf l (2 * q)))

  low-high : Behind low high
  low-high =
      ahead-prior G ok.low low high (tree_low h l q t) (tree_high h l q t)
      (λ e. absurd (omega (arith, pow_pos l)))

  push : (n : Node) (ns : List Node) → Each (Behind n) ns
      → insert (record_in G n) (map (record_in G) ns) ≡ map (record_in G) (insert_by (prior_node G.count) n ns)
  push = insert_record G ok.low

  pub open_low : G.lives low ≡ true → G.lives high ≡ false
      → insert (record_in G low) (tail (queue w m)) ≡ map (record_in G) (halves G.count G.lives l q ms)
  open_low e f = rw (e, f, F.others) (push low ms low_each)

  pub open_high : G.lives low ≡ false → G.lives high ≡ true
      → insert (record_in G high) (tail (queue w m)) ≡ map (record_in G) (halves G.count G.lives l q ms)
  open_high e f = rw (e, f, F.others) (push high ms high_each)

  pub open_both : G.lives low ≡ true → G.lives high ≡ true
      → insert (record_in G low) (insert (record_in G high) (tail (queue w m)))
      ≡ map (record_in G) (halves G.count G.lives l q ms)
  open_both e f =
      rw (e, f, F.others)
      (ap (insert (record_in G low)) (push high ms high_each)
      ∙ push low (insert_by (prior_node G.count) high ms)
      (each_insert (Behind low) (prior_node G.count) high ms low-high low_each))

  -- one of the halves lives
  pub some_half : (G.lives low || G.lives high) ≡ true
  some_half = sym (ok.counted.lives_halves l q) ∙ every_head G.lives (node (suc l) q) ms F.ready.alive

  -- there is room for both
  pub both_fit : G.lives low ≡ true → G.lives high ≡ true → suc m ≤ G.documents
  both_fit e f =
      let p : Node → Node → Bool = prior_node G.count in
      let n : length (halves G.count G.lives l q ms) ≡ suc (suc (length ms)) =
      rw (e, f) (same_length (insert_by p low (insert_by p high ms)) (low ∷ insert_by p high ms) (insert_same p low (insert_by p high ms))
      ∙ ap suc (same_length (insert_by p high ms) (high ∷ ms) (insert_same p high ms))) in
      omega (
        arith,
        length-queue w m,
        length_tail (queue w m),
        ap length F.others,
        length-map ms (record_in G),
        ready_length G ok (halves G.count G.lives l q ms)
            (ready_open G.count G.lives h l q ms F.ready),
      )
