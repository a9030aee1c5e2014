-- The opening of the first of the waiting nodes in the work slice, by which of its halves live.
use Prim.Native.Nat.{ℕ, suc, ◌+◌, ◌-◌, ◌*◌, ◌/◌, ◌%◌, ◌^◌, ◌≤◌, ◌<◌}
use native.Mathlib.Omega.{arith}
use mathlib.Core.Path.{◌≡◌, ap, ap₂, ◌∙◌, subst}
use mathlib.Core.List.{List, tail}
use mathlib.Core.Bool.{true, false}
use lib.ListN.{length}
use Rattle.frontier.specs.declared.Record.{Record}
use Rattle.frontier.specs.Priority.{insert}
use Rattle.frontier.specs.Heap.{queue}
use Rattle.frontier.specs.Operations.{Replaced, Opened}
use Rattle.model.specs.TopK.{node}
use Rattle.moves.specs.Ground.{Ground, record_in}
use Rattle.moves.proofs.Grounds.{Sound}
use Rattle.moves.specs.Moves.{frontier_in, Kept, First, next_move, Moves}
use Rattle.moves.proofs.Tree.{in_tree, tree_index}
use Rattle.moves.proofs.Records.{second_start}
use Rattle.moves.proofs.Kept.{Front, front_at, front_tree, index_of, others_of}
use Rattle.moves.proofs.Halves.{open_low, open_high, open_both, some_half, both_fit}
use Rattle.moves.proofs.Made.{opens_kept}

module _ (G : Ground) (ok : Sound G) (w : List ℕ) (m : ℕ) (r : Record) (kept : Kept G w m) (f : First w m r)
    (d : r.second % 16 < G.height) where
  abbrev h : ℕ
  h = G.height

  -- the height of the halves, and the node's index
  abbrev pub l : ℕ
  l = h - 1 - r.second % 16

  abbrev pub q : ℕ
  q = index_of G r

  inner : Front G w m r (suc l) q (others_of G w m)
  inner = front_at G w m r kept f (suc l) (omega arith)

  pub t : in_tree h (node (suc l) q) ≡ true
  t = front_tree G w m r (suc l) q (others_of G w m) inner

  -- its number among the nodes of its depth
  pub number_lt : q < 2 ^ (r.second % 16)
  number_lt =
      let e : h - suc l ≡ r.second % 16 = omega arith in
      subst (λ (k : ℕ). q < 2 ^ k) e (tree_index h (suc l) q t)

  pub start_is : r.second / 16 ≡ q * 2 ^ (G.height - r.second % 16)
  start_is =
      let e : suc l ≡ G.height - r.second % 16 = omega arith in
      ap (λ (x : Record). x.second / 16) inner.first ∙ second_start G ok.low (suc l) q ∙ ap (λ (k : ℕ). q * 2 ^ k) e

  -- ---- by which halves live

  module _ (low high : Record) (el : low ≡ record_in G (node l (2 * q))) (eh : high ≡ record_in G (node l (2 * q + 1))) where
    pub opens_high : G.lives (node l (2 * q)) ≡ false → (v : List ℕ) → Replaced w m high v → Moves G w (next_move G 1 (frontier_in G w m)).waiting v m
    opens_high dead v R =
        let some : G.lives (node l (2 * q + 1)) ≡ true = rw dead at (some_half G ok w m r l q (others_of G w m) inner) in
        opens_kept G ok w m r kept l q (others_of G w m) inner v m
        (R.order ∙ ap (λ (x : Record). insert x (tail (queue w m))) eh ∙ open_high G ok w m r l q (others_of G w m) inner dead some) R.heap R.rest R.size

    pub opens_low : G.lives (node l (2 * q)) ≡ true → G.lives (node l (2 * q + 1)) ≡ false → (v : List ℕ) → Replaced w m low v
        → Moves G w (next_move G 1 (frontier_in G w m)).waiting v m
    opens_low some dead v R =
        opens_kept G ok w m r kept l q (others_of G w m) inner v m
        (R.order ∙ ap (λ (x : Record). insert x (tail (queue w m))) el ∙ open_low G ok w m r l q (others_of G w m) inner some dead) R.heap R.rest R.size

    pub opens_both : G.lives (node l (2 * q)) ≡ true → G.lives (node l (2 * q + 1)) ≡ true → (v : List ℕ) → Opened w m high low v
        → Moves G w (next_move G 1 (frontier_in G w m)).waiting v (m + 1)
    opens_both x y v O =
        opens_kept G ok w m r kept l q (others_of G w m) inner v (m + 1)
        (O.order ∙ ap₂ (λ (x y : Record). insert x (insert y (tail (queue w m)))) el eh ∙ open_both G ok w m r l q (others_of G w m) inner x y) O.heap O.rest O.size

  pub opens_room : G.lives (node l (2 * q)) ≡ true → G.lives (node l (2 * q + 1)) ≡ true → 4 * m + 4 ≤ length w
  opens_room x y =
      let k = both_fit G ok w m r l q (others_of G w m) inner x y in
      let o = kept.room in
      omega arith
