-- The waiting nodes as a list of nodes: how the halves of a node come to wait, and what holds of the list from move to move.
use Prim.Native.Nat.{ℕ, zero, suc, ◌+◌, ◌*◌, ◌^◌, ◌≤◌, ◌<◌}
use native.Mathlib.Omega.{arith}
use mathlib.Core.Path.{◌≡◌, refl, ◌∙◌}
use mathlib.Core.Logic.{◌⊎◌, inl, inr}
use mathlib.Core.List.{List, [], ◌∷◌, ◌++◌}
use mathlib.Core.Bool.{Bool, true, false, not, cond}
use lib.Dec.{eqb}
use borrow.Author.Tests.{eqb-false, not-true}
use Rattle.bits.specs.Sequences.{bit, tally}
use Rattle.bits.proofs.Tests.{look}
use Rattle.bits.proofs.Tally.{tally-append, tally_same}
use Rattle.model.specs.TopK.{Node, node, start}
use Rattle.model.specs.Search.{prior}
use Rattle.model.specs.Lists.{Every, Sorted, insert_by}
use Rattle.model.specs.Frontier.{waiting, nodes, under, all_under, place, ahead_node, Ready}
use Rattle.model.proofs.Sorting.{every_tail, every_cons, insert_same, insert-sorted}
use Rattle.model.proofs.Priority.{Ahead, true_ahead, prior_true, prior_false}
use Rattle.model.proofs.Greedy.Abstract.{Counted}
use Rattle.model.proofs.Greedy.Nodes.{living, leafly, leaf_once, first_leaf, start_le_place, place_le_start, node_trans, dead_under}

-- ---- how nodes come to wait

abbrev pub prior_node : (Node → ℕ) → Node → Node → Bool
prior_node count n m = prior (waiting count n) (waiting count m)

module _ (count : Node → ℕ) (lives : Node → Bool) where
  -- a node that lives joins the waiting ones
  abbrev pub join : Node → List Node → List Node
  join n ms = cond (lives n) (insert_by (prior_node count) n ms) ms

  abbrev pub halves : ℕ → ℕ → List Node → List Node
  halves l q ms = join (node l (2 * q)) (join (node l (2 * q + 1)) ms)

-- ---- what is under them

tally-under-insert : (p : Node → Bool) (t : Node → Node → Bool) (n : Node) (ms : List Node)
    → tally p (all_under (insert_by t n ms)) ≡ tally p (under n) + tally p (all_under ms)
tally-under-insert p t n [] = tally-append p (under n) []
tally-under-insert p t n (m ∷ ms) = go (t n m) (tally-under-insert p t n ms)
  where
    go : (b : Bool) → tally p (all_under (insert_by t n ms)) ≡ tally p (under n) + tally p (all_under ms)
        → tally p (all_under (cond b (n ∷ m ∷ ms) (m ∷ insert_by t n ms))) ≡ tally p (under n) + tally p (under m ++ all_under ms)
    go true i = tally-append p (under n) (under m ++ all_under ms)
    go false i = omega (arith, tally-append p (under m) (all_under (insert_by t n ms)), tally-append p (under m) (all_under ms))

under_self : (p : Node → Bool) (n : Node) → bit (p n) ≤ tally p (under n)
under_self p (node zero q) = omega arith
under_self p (node (suc l) q) = omega arith

tally_le_under : (p : Node → Bool) (ms : List Node) → tally p ms ≤ tally p (all_under ms)
tally_le_under p [] = omega arith
tally_le_under p (m ∷ ms) = omega (arith, tally-append p (under m) (all_under ms), under_self p m, tally_le_under p ms)

-- no two waiting nodes have a leaf in common
abbrev pub Apart : List Node → Type 0
Apart ms = (v : ℕ) → tally (leafly (eqb v)) (all_under ms) ≤ 1

module _ (count : Node → ℕ) (lives : Node → Bool) where
  join_le : (p : Node → Bool) (l q : ℕ) (ms : List Node)
      → tally p (all_under (join count lives (node l q) ms)) ≤ tally p (nodes l q) + tally p (all_under ms)
  join_le p l q ms = go (lives (node l q))
    where
      go : (b : Bool) → tally p (all_under (cond b (insert_by (prior_node count) (node l q) ms) ms)) ≤ tally p (nodes l q) + tally p (all_under ms)
      go true = omega (arith, tally-under-insert p (prior_node count) (node l q) ms)
      go false = omega arith

  -- under the halves there is no more than was under their node
  pub halves_le : (p : Node → Bool) (l q : ℕ) (ms : List Node)
      → tally p (all_under (halves count lives l q ms)) ≤ tally p (all_under (node (suc l) q ∷ ms))
  halves_le p l q ms =
      omega (
        arith,
        tally-append p (nodes l (2 * q) ++ nodes l (2 * q + 1)) (all_under ms),
        tally-append p (nodes l (2 * q)) (nodes l (2 * q + 1)),
        join_le p l (2 * q + 1) ms,
        join_le p l (2 * q) (join count lives (node l (2 * q + 1)) ms),
      )

  join_alive : (n : Node) (ms : List Node) → Every lives ms → Every lives (join count lives n ms)
  join_alive n ms h = go (look (lives n))
    where
      go : (lives n ≡ true) ⊎ (lives n ≡ false) → Every lives (cond (lives n) (insert_by (prior_node count) n ms) ms)
      go (inl e) = rw e (insert_same (prior_node count) n ms (λ y. not (lives y)) ∙ every_cons lives n ms e h)
      go (inr e) = rw e h

  -- ---- sorted

  prior-ahead : (n m : Node) → prior_node count n m ≡ true → ahead_node count n m ≡ true
  prior-ahead n m e = true_ahead (count n) (place n) (count m) (place m) (go (prior_true (count n) (start n) (count m) (start m) e))
    where
      go : (count m < count n) ⊎ ((count m ≡ count n) × (start n < start m)) → Ahead (count n) (place n) (count m) (place m)
      go (inl h) = inl h
      go (inr h) = inr (h.0, omega (arith, place_le_start n, start_le_place m))

  -- a waiting node that is no leaf at n's start, and before which n does not go
  ahead_not_prior : (n m : Node) → not (leafly (eqb (start n)) m) ≡ true → prior_node count n m ≡ false → ahead_node count m n ≡ true
  ahead_not_prior n m g e = true_ahead (count m) (place m) (count n) (place n) (go m g (prior_false (count n) (start n) (count m) (start m) e))
    where
      go : (m : Node) → not (leafly (eqb (start n)) m) ≡ true → Ahead (count m) (start m) (count n) (start n)
          → Ahead (count m) (place m) (count n) (place n)
      go m g (inl h) = inl h
      go (node zero q) g (inr h) =
          let d = eqb-false (start n) q (not-true (eqb (start n) q) g) in
          inr (h.0, omega (arith, start_le_place n))
      go (node (suc l) q) g (inr h) = inr (h.0, omega (arith, start_le_place n))

  join-sorted : (l q : ℕ) (ms : List Node) → Sorted (ahead_node count) ms
      → tally (leafly (eqb (q * 2 ^ l))) (nodes l q) + tally (leafly (eqb (q * 2 ^ l))) (all_under ms) ≤ 1
      → Sorted (ahead_node count) (join count lives (node l q) ms)
  join-sorted l q ms h u = go (lives (node l q))
    where
      g : Node → Bool
      g m = leafly (eqb (q * 2 ^ l)) m

      not_not : (b : Bool) → not (not b) ≡ b
      not_not true = refl
      not_not false = refl

      none : Every (λ m. not (g m)) ms
      none = tally_same (λ m. not (not (g m))) g (λ m. not_not (g m)) ms ∙ omega (arith, first_leaf l q, tally_le_under g ms)

      go : (b : Bool) → Sorted (ahead_node count) (cond b (insert_by (prior_node count) (node l q) ms) ms)
      go true =
          insert-sorted (ahead_node count) (prior_node count) (node_trans count) prior-ahead (node l q) (λ m. not (g m)) (ahead_not_prior (node l q)) ms none h
      go false = h

  halves-sorted : (l q : ℕ) (ms : List Node) → Sorted (ahead_node count) ms → Apart (node (suc l) q ∷ ms)
      → Sorted (ahead_node count) (halves count lives l q ms)
  halves-sorted l q ms h u =
      join-sorted l (2 * q) (join count lives (node l (2 * q + 1)) ms)
      (join-sorted l (2 * q + 1) ms h (omega (arith, spread ((2 * q + 1) * 2 ^ l))))
      (omega (arith, spread (2 * q * 2 ^ l), join_le (leafly (eqb (2 * q * 2 ^ l))) l (2 * q + 1) ms))
    where
      spread : (v : ℕ) → tally (leafly (eqb v)) (nodes l (2 * q)) + tally (leafly (eqb v)) (nodes l (2 * q + 1)) + tally (leafly (eqb v)) (all_under ms) ≤ 1
      spread v =
          omega (
            arith,
            u v,
            tally-append (leafly (eqb v)) (nodes l (2 * q) ++ nodes l (2 * q + 1)) (all_under ms),
            tally-append (leafly (eqb v)) (nodes l (2 * q)) (nodes l (2 * q + 1)),
          )

-- ---- what holds from move to move

module _ (count : Node → ℕ) (lives : Node → Bool) (h : ℕ) where
  pub ready_root : Ready count lives h (join count lives (node h 0) [])
  ready_root = record {
    alive = join_alive count lives (node h 0) [] refl;
    sorted = join-sorted count lives h 0 [] tt (omega (arith, leaf_once (0 * 2 ^ h) h 0));
    inside = λ p. omega (arith, join_le count lives p h 0 []);
  }

  pub ready_name : (q : ℕ) (ms : List Node) → Ready count lives h (node zero q ∷ ms) → Ready count lives h ms
  ready_name q ms r = record {
    alive = every_tail lives (node zero q) ms r.alive;
    sorted = r.sorted.1;
    inside = λ p. omega (arith, r.inside p);
  }

  pub ready_apart : (ms : List Node) → Ready count lives h ms → Apart ms
  ready_apart ms r v = omega (arith, r.inside (leafly (eqb v)), leaf_once v h 0)

  pub ready_open : (l q : ℕ) (ms : List Node) → Ready count lives h (node (suc l) q ∷ ms) → Ready count lives h (halves count lives l q ms)
  ready_open l q ms r = record {
    alive = join_alive count lives (node l (2 * q)) (join count lives (node l (2 * q + 1)) ms)
        (join_alive count lives (node l (2 * q + 1)) ms (every_tail lives (node (suc l) q) ms r.alive));
    sorted = halves-sorted count lives l q ms r.sorted.1 (ready_apart (node (suc l) q ∷ ms) r);
    inside = λ p. omega (arith, halves_le count lives p l q ms, r.inside p);
  }

-- ---- a move takes the first node, and nothing else that lives

pub living_leaf : (lives p : Node → Bool) (q : ℕ) (ms : List Node) → lives (node zero q) ≡ true
    → tally (living lives p) (all_under (node zero q ∷ ms)) ≡ bit (p (node zero q)) + tally (living lives p) (all_under ms)
living_leaf lives p q ms e = rw e

module _ (count : Node → ℕ) (lives : Node → Bool) (counted : Counted count lives) where
  -- what lives under a node waits with it
  pub join-living : (p : Node → Bool) (l q : ℕ) (ms : List Node)
      → tally (living lives p) (all_under (join count lives (node l q) ms)) ≡ tally (living lives p) (nodes l q) + tally (living lives p) (all_under ms)
  join-living p l q ms = go (look (lives (node l q)))
    where
      go : (lives (node l q) ≡ true) ⊎ (lives (node l q) ≡ false)
          → tally (living lives p) (all_under (cond (lives (node l q)) (insert_by (prior_node count) (node l q) ms) ms))
          ≡ tally (living lives p) (nodes l q) + tally (living lives p) (all_under ms)
      go (inl e) = rw e (tally-under-insert (living lives p) (prior_node count) (node l q) ms)
      go (inr e) = rw (e, dead_under count lives counted p l q e) (omega arith)

  pub living_open : (p : Node → Bool) (l q : ℕ) (ms : List Node) → lives (node (suc l) q) ≡ true
      → tally (living lives p) (all_under (node (suc l) q ∷ ms)) ≡ bit (p (node (suc l) q)) + tally (living lives p) (all_under (halves count lives l q ms))
  living_open p l q ms e =
      rw e
      (omega (
        arith,
        tally-append (living lives p) (nodes l (2 * q) ++ nodes l (2 * q + 1)) (all_under ms),
        tally-append (living lives p) (nodes l (2 * q)) (nodes l (2 * q + 1)),
        join-living p l (2 * q + 1) ms,
        join-living p l (2 * q) (join count lives (node l (2 * q + 1)) ms),
      ))
