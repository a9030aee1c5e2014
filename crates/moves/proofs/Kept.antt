-- Laws of a frontier that is kept in the work slice: its nodes, the first of them, and what shows that it is kept.
use Prim.Native.Nat.{ℕ, ◌-◌, ◌*◌, ◌/◌, ◌%◌, ◌^◌, ◌≤◌, ◌<◌}
use native.Mathlib.Omega.{arith}
use mathlib.Core.Path.{◌≡◌, sym, ap, ◌∙◌, subst}
use mathlib.Core.List.{List, ◌∷◌, map, tail}
use mathlib.Core.Bool.{true}
use lib.ListN.{length, length-map}
use Rattle.frontier.specs.declared.Record.{Record}
use Rattle.frontier.specs.Heap.{queue, Heap}
use Rattle.frontier.proofs.Queue.{length-queue}
use Rattle.model.specs.TopK.{Node, node}
use Rattle.model.specs.Search.{Waiting, prior}
use Rattle.model.proofs.Sorting.{every_head}
use Rattle.model.specs.Lists.{Every}
use Rattle.model.specs.Frontier.{waiting, Ready, Waits, blocks}
use Rattle.model.proofs.Greedy.Waits.{blocks-waiting, waits_length, first-prior}
use Rattle.moves.specs.Ground.{Ground, record_in, waiting_in}
use Rattle.moves.proofs.Grounds.{Sound}
use Rattle.moves.specs.Moves.{frontier_in, Kept, First}
use Rattle.moves.proofs.Tree.{in_tree, ready_tree}
use Rattle.moves.proofs.Records.{second_depth, read_all}

module _ (G : Ground) (ok : Sound G) where
  -- at most N nodes wait
  pub ready_length : (ms : List Node) → Ready G.count G.lives G.height ms → length ms ≤ G.documents
  ready_length ms r =
      let f : List Waiting = map (waiting G.count) ms in
      let e : blocks f ≡ ms = blocks-waiting G.count ms in
      let w : Waits G.count G.lives G.height f = record {
        counts = ap (map (waiting G.count)) (sym e);
        ready = subst (λ (ns : List Node). Ready G.count G.lives G.height ns) (sym e) r;
      } in
      omega (
        arith,
        length-map ms (waiting G.count),
        waits_length G.count G.lives ok.counted G.height G.documents ok.fits ok.outside f w,
      )

  -- the first of the waiting nodes has the largest count and, among equal counts, the lowest start: it is prior to every other
  pub kept-first : (work : List ℕ) (m : ℕ) → Kept G work m → (w : Waiting) (rest : List Waiting) → frontier_in G work m ≡ w ∷ rest → Every (prior w) rest
  kept-first work m kept w rest e =
      first-prior G.count G.lives G.height w rest (subst (Waits G.count G.lives G.height) e kept.waits)

  -- ---- from nodes in the queue to a frontier that is kept

  module _ (v : List ℕ) (m : ℕ) (ms : List Node) (q : queue v m ≡ map (record_in G) ms)
      (r : Ready G.count G.lives G.height ms) where
    pub frontier_is : frontier_in G v m ≡ map (waiting G.count) ms
    frontier_is =
        ap (map (waiting_in G.height)) q
        ∙ read_all G ok.low ms
        (ready_tree G.count G.lives G.height ms r)

    blocks_is : blocks (frontier_in G v m) ≡ ms
    blocks_is = ap blocks frontier_is ∙ blocks-waiting G.count ms

    pub kept_of : Heap v m → 4 * G.documents ≤ length v → Kept G v m
    kept_of heap room = record {
      heap = heap;
      room = room;
      few = omega (arith, length-queue v m, ap length q, length-map ms (record_in G), ready_length ms r);
      spans = q ∙ ap (map (record_in G)) (sym blocks_is);
      waits = record {
        counts = frontier_is ∙ ap (map (waiting G.count)) (sym blocks_is);
        ready = subst (λ (ns : List Node). Ready G.count G.lives G.height ns) (sym blocks_is) r;
      };
    }

-- ---- from a frontier that is kept to its nodes, the first of which is r

pub record Front (G : Ground) (w : List ℕ) (m : ℕ) (r : Record) (l q : ℕ) (ms : List Node) : Type 0 where
  pub first : r ≡ record_in G (node l q)
  pub others : tail (queue w m) ≡ map (record_in G) ms
  pub ready : Ready G.count G.lives G.height (node l q ∷ ms)
  pub frontier : frontier_in G w m ≡ waiting G.count (node l q) ∷ map (waiting G.count) ms

cons_head : {A : Type 0} (x y : A) (xs ys : List A) → x ∷ xs ≡ y ∷ ys → x ≡ y
cons_head x y xs ys e = cc

cons_tail : {A : Type 0} (x y : A) (xs ys : List A) → x ∷ xs ≡ y ∷ ys → xs ≡ ys
cons_tail x y xs ys e = cc

-- the height and the index that the first record tells, and the other nodes
abbrev pub height_of : Ground → Record → ℕ
height_of G r = G.height - r.second % 16

abbrev pub index_of : Ground → Record → ℕ
index_of G r = r.second / 16 / 2 ^ height_of G r

abbrev pub others_of : Ground → List ℕ → ℕ → List Node
others_of G w m = blocks (map (waiting_in G.height) (tail (queue w m)))

module _ (G : Ground) (w : List ℕ) (m : ℕ) (r : Record) (kept : Kept G w m) (f : First w m r) where
  pub front : Front G w m r (height_of G r) (index_of G r) (others_of G w m)
  front =
      let h = G.height in
      let e : r ∷ tail (queue w m) ≡ record_in G (node (height_of G r) (index_of G r)) ∷ map (record_in G) (others_of G w m) =
      subst (λ (qs : List Record). qs ≡ map (record_in G) (blocks (map (waiting_in h) qs))) f kept.spans in
      record {
        first = cons_head r (record_in G (node (height_of G r) (index_of G r))) (tail (queue w m)) (map (record_in G) (others_of G w m)) e;
        others = cons_tail r (record_in G (node (height_of G r) (index_of G r))) (tail (queue w m)) (map (record_in G) (others_of G w m)) e;
        ready = subst (λ (qs : List Record). Ready G.count G.lives h (blocks (map (waiting_in h) qs))) f kept.waits.ready;
        frontier = kept.waits.counts ∙ ap (λ (qs : List Record). map (waiting G.count) (blocks (map (waiting_in h) qs))) f;
      }

  pub front_at : (l : ℕ) → height_of G r ≡ l → Front G w m r l (index_of G r) (others_of G w m)
  front_at l e = subst (λ (k : ℕ). Front G w m r k (index_of G r) (others_of G w m)) e front

  pub first_some : 0 < m
  first_some = omega (arith, length-queue w m, ap length f)

  pub first_depth : Sound G → r.second % 16 ≤ G.height
  first_depth ok =
      omega (
        arith,
        ap (λ (x : Record). x.second % 16) front.first,
        second_depth G ok.low (height_of G r) (index_of G r),
      )

module _ (G : Ground) (w : List ℕ) (m : ℕ) (r : Record) (l q : ℕ) (ms : List Node) (F : Front G w m r l q ms) where
  pub front_tree : in_tree G.height (node l q) ≡ true
  front_tree =
      every_head (in_tree G.height) (node l q) ms
      (ready_tree G.count G.lives G.height (node l q ∷ ms) F.ready)
