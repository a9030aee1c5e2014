-- Laws of the records of waiting nodes: they read back as the nodes, and stand in the queue as the nodes do.
use Prim.Native.Nat.{ℕ, ◌-◌, ◌*◌, ◌/◌, ◌%◌, ◌^◌, ◌≤◌}
use native.Mathlib.Omega.{arith}
use native.Mathlib.Nat.{mul-div_cancel}
use mathlib.Core.Path.{◌≡◌, refl, ap, ap₂, ◌∙◌}
use mathlib.Core.List.{List, [], ◌∷◌, map}
use mathlib.Core.Bool.{Bool, true, false, cond}
use lib.Dec.{ltb, eqb}
use lib.Pow.{pow_pos}
use Rattle.bits.specs.Sequences.{tally}
use Rattle.bits.proofs.Tests.{ltb_iff}
use Rattle.bits.proofs.Tally.{tally-append}
use Rattle.frontier.specs.Priority.{lex, ahead, insert}
use Rattle.frontier.specs.Priority as queued
use Rattle.frontier.proofs.Callers.{ahead_by_two, Each, insert-map}
use Rattle.model.specs.Lists.{Every, insert_by}
use Rattle.model.specs.TopK.{Node, node, start}
use Rattle.model.specs.Frontier.{waiting, nodes, all_under}
use Rattle.model.proofs.Sorting.{every_head, every_tail}
use Rattle.model.proofs.Greedy.Nodes.{leafly, first_leaf}
use Rattle.model.proofs.Greedy.Frontier.{prior_node}
use Rattle.moves.specs.Ground.{Ground, record_in, waiting_in}
use Rattle.moves.proofs.Tree.{in_tree, tree_height}

-- ---- a list of ones own in the queue

module _ {A : Type 0} where
  -- insertion is defined alike for queues and for nodes
  insert_is : (t : A → A → Bool) (x : A) (ys : List A) → queued.insert_by t x ys ≡ insert_by t x ys
  insert_is t x [] = refl
  insert_is t x (y ∷ ys) = ap (λ (r : List A). cond (t x y) (x ∷ y ∷ ys) (y ∷ r)) (insert_is t x ys)

  pub each_insert : (P : A → Type 0) (t : A → A → Bool) (x : A) (ys : List A) → P x → Each P ys → Each P (insert_by t x ys)
  each_insert P t x [] p e = (p, tt)
  each_insert P t x (y ∷ ys) p e = go (t x y) (each_insert P t x ys p e.1)
    where
      go : (c : Bool) → Each P (insert_by t x ys) → Each P (cond c (x ∷ y ∷ ys) (y ∷ insert_by t x ys))
      go true i = (p, e)
      go false i = (e.0, i)

module _ (G : Ground) (ok : G.height ≤ 12) where
  -- ---- what a record says of its node

  pub second_start : (l q : ℕ) → (record_in G (node l q)).second / 16 ≡ q * 2 ^ l
  second_start l q = omega (arith)

  pub second_depth : (l q : ℕ) → (record_in G (node l q)).second % 16 ≡ G.height - l
  second_depth l q = omega (arith)

  read_back : (l q : ℕ) → l ≤ G.height → waiting_in G.height (record_in G (node l q)) ≡ waiting G.count (node l q)
  read_back l q m =
      let r = record_in G (node l q) in
      let e : G.height - r.second % 16 ≡ l = omega (arith, second_depth l q) in
      let s : r.second / 16 / 2 ^ (G.height - r.second % 16) ≡ q =
      ap₂ (λ (x k : ℕ). x / 2 ^ k) (second_start l q) e ∙ mul-div_cancel q (pow_pos l) in
      λ i. record { block = node (e i) (s i); count = G.count (node l q) }

  pub read_all : (ms : List Node) → Every (in_tree G.height) ms → map (waiting_in G.height) (map (record_in G) ms) ≡ map (waiting G.count) ms
  read_all [] e = refl
  read_all (node l q ∷ ms) e =
      ap₂ ◌∷◌ (read_back l q (tree_height G.height l q (every_head (in_tree G.height) (node l q) ms e)))
      (read_all ms (every_tail (in_tree G.height) (node l q) ms e))

  -- ---- their order: a larger count goes first, equal counts by lower start

  pub ahead-prior : (n m : Node) → in_tree G.height n ≡ true → in_tree G.height m ≡ true → (start n ≡ start m → ⊥)
      → ahead (record_in G n) (record_in G m) ≡ prior_node G.count n m
  ahead-prior (node l q) (node k p) t u d =
      let e : ltb (record_in G (node l q)).second (record_in G (node k p)).second ≡ ltb (q * 2 ^ l) (p * 2 ^ k) =
      ltb_iff (record_in G (node l q)).second (record_in G (node k p)).second (q * 2 ^ l) (p * 2 ^ k)
      (λ g. omega arith) (λ g. omega arith) in
      ahead_by_two (record_in G (node l q)) (record_in G (node k p)) (λ f g. d (omega arith))
      ∙ (λ i. lex (G.count (node k p)) (G.count (node l q)) (e i))

  -- no waiting node starts where n does
  pub ahead_each : (n : Node) (ms : List Node) → in_tree G.height n ≡ true → Every (in_tree G.height) ms → tally (leafly (eqb (start n))) (all_under ms) ≡ 0
      → Each (λ y. ahead (record_in G n) (record_in G y) ≡ prior_node G.count n y) ms
  ahead_each n [] t e z = tt
  ahead_each n (node l q ∷ ms) t e z =
      let s = tally-append (leafly (eqb (start n))) (nodes l q) (all_under ms) in (
        ahead-prior n (node l q) t (every_head (in_tree G.height) (node l q) ms e) (λ d. let f = rw (← d) at (first_leaf l q) in absurd (omega arith)),
        ahead_each n ms t (every_tail (in_tree G.height) (node l q) ms e) (omega arith),
      )

  pub insert_record : (n : Node) (ms : List Node)
      → Each (λ y. ahead (record_in G n) (record_in G y) ≡ prior_node G.count n y) ms
      → insert (record_in G n) (map (record_in G) ms) ≡ map (record_in G) (insert_by (prior_node G.count) n ms)
  insert_record n ms e =
      insert-map (record_in G) (prior_node G.count) n ms e
      ∙ ap (map (record_in G)) (insert_is (prior_node G.count) n ms)
