-- The three moves on the first of the waiting nodes, as the model makes them.
use Prim.Native.Nat.{ℕ, zero, suc, ◌+◌, ◌-◌, ◌*◌, ◌/◌, ◌^◌, ◌<◌}
use native.Mathlib.Omega.{arith}
use native.Mathlib.Nat.{mul-one}
use mathlib.Core.Path.{◌≡◌, refl, sym, ap, ◌∙◌}
use mathlib.Core.List.{List, ◌∷◌, map, tail}
use lib.ListN.{length, drop}
use lib.Seq.{drop-drop}
use Rattle.frontier.specs.declared.Record.{Record}
use Rattle.frontier.specs.Heap.{queue, Heap}
use Rattle.frontier.specs.Operations.{Popped}
use Rattle.frontier.proofs.Records.{drop_further}
use Rattle.model.specs.TopK.{Node, node}
use Rattle.model.specs.Search.{Waiting, names, opens, finds_spent}
use Rattle.model.specs.Frontier.{Ready}
use Rattle.model.proofs.Greedy.Frontier.{halves, ready_name, ready_open}
use Rattle.model.proofs.Greedy.Moves.{wait-halves}
use Rattle.moves.specs.declared.Move.TheVariants.{Names, Opens, Spent}
use Rattle.moves.specs.Moves.{frontier_in, Kept, next_move, moved_is, Moves}
use Rattle.moves.specs.Ground.{Ground, record_in}
use Rattle.moves.proofs.Grounds.{Sound}
use Rattle.moves.proofs.Records.{second_start}
use Rattle.moves.proofs.Kept.{frontier_is, kept_of, Front}

-- nothing past the records is touched
drop_popped : (w v : List ℕ) (m : ℕ) → 0 < m → drop (4 * (m - 1)) v ≡ 0 ∷ 0 ∷ 0 ∷ 0 ∷ drop (4 * m) w → drop (4 * m) v ≡ drop (4 * m) w
drop_popped w v m z e =
    let o : 4 * (m - 1) + 4 ≡ 4 * m = omega arith in
    ap (λ (k : ℕ). drop k v) (sym o) ∙ sym (drop-drop 4 (4 * (m - 1)) v) ∙ ap (drop 4) e

module _ (G : Ground) (ok : Sound G) (w : List ℕ) (m : ℕ) (r : Record) (kept : Kept G w m) where
  -- ---- a leaf is named

  module _ (q : ℕ) (ms : List Node) (F : Front G w m r zero q ms) (v : List ℕ) (x : Record) (P : Popped w m x v) where
    rest-queue : queue v (m - 1) ≡ map (record_in G) ms
    rest-queue = sym (ap tail P.order) ∙ F.others

    rest_ready : Ready G.count G.lives G.height ms
    rest_ready = ready_name G.count G.lives G.height q ms F.ready

    pub names_move : (left : ℕ)
        → moved_is G (record { made = Names (r.second / 16) r.first; waiting = m - 1 }) v ≡ next_move G left (frontier_in G w m)
    names_move left =
        let d : r.second / 16 ≡ q =
        ap (λ (y : Record). y.second / 16) F.first
        ∙ second_start G ok.low zero q
        ∙ mul-one q in
        let c : r.first ≡ G.count (node zero q) =
        ap (λ (y : Record). y.first) F.first in
        let f = frontier_is G ok v (m - 1) ms rest-queue rest_ready in
        (λ i. record { move = names (record { document = d i; count = c i }); waiting = f i })
        ∙ sym (ap (next_move G left) F.frontier)

    pub names_kept : 0 < m → Moves G w (frontier_in G v (m - 1)) v (m - 1)
    names_kept z = record {
      kept = kept_of G ok v (m - 1) ms rest-queue rest_ready P.heap (let k = kept.room in let n = P.size in omega arith);
      waits = refl;
      rest = drop_further v w (4 * m) (4 * G.documents) (drop_popped w v m z P.rest) (let k = kept.few in omega arith);
      size = P.size;
    }

  module _ (l q : ℕ) (ms : List Node) (F : Front G w m r (suc l) q ms) where
    -- ---- nothing is left

    pub spent_move : moved_is G (record { made = Spent; waiting = m }) w ≡ next_move G zero (frontier_in G w m)
    spent_move = (λ i. record { move = finds_spent; waiting = F.frontier i }) ∙ sym (ap (next_move G zero) F.frontier)

    -- ---- a node is opened

    pub opens_kept : (v : List ℕ) (n : ℕ) → queue v n ≡ map (record_in G) (halves G.count G.lives l q ms)
        → Heap v n → drop (4 * n) v ≡ drop (4 * n) w → length v ≡ length w
        → Moves G w (next_move G 1 (frontier_in G w m)).waiting v n
    opens_kept v n e heap rest size =
        let hs : List Node = halves G.count G.lives l q ms in
        let ready = ready_open G.count G.lives G.height l q ms F.ready in
        let k = kept_of G ok v n hs e ready heap (let o = kept.room in omega arith) in
        record {
          kept = k;
          waits = frontier_is G ok v n hs e ready ∙ sym (wait-halves G.count G.lives l q ms)
              ∙ sym (ap (λ (f : List Waiting). (next_move G 1 f).waiting) F.frontier);
          rest = drop_further v w (4 * n) (4 * G.documents) rest (let o = k.few in omega arith);
          size = size;
        }

    pub opens_move : (left : ℕ) → (left ≡ 0 → ⊥) → (v : List ℕ) (n start height : ℕ) → node height (start / 2 ^ height) ≡ node (suc l) q
        → frontier_in G v n ≡ (next_move G 1 (frontier_in G w m)).waiting
        → moved_is G (record { made = Opens start height; waiting = n }) v ≡ next_move G left (frontier_in G w m)
    opens_move zero some v n start height e f = absurd (some refl)
    opens_move (suc left) some v n start height e f =
        let g = f ∙ ap (λ (y : List Waiting). (next_move G 1 y).waiting) F.frontier in
        (λ i. record { move = opens (e i); waiting = g i }) ∙ sym (ap (next_move G (suc left)) F.frontier)

-- what a move that changes nothing keeps
pub same_kept : (G : Ground) (w : List ℕ) (m : ℕ) → Kept G w m → Moves G w (frontier_in G w m) w m
same_kept G w m kept = record { kept = kept; waits = refl; rest = refl; size = refl }
