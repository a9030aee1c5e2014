-- The waiting nodes in the lent work slice, and what a move makes of them. Document 01, "The questions", the shortlist.
use Rattle.std.specs.Prelude.{ℕ, ◌*◌, ◌/◌, ◌^◌, ◌≤◌, ◌≡◌, length, drop}
use mathlib.Core.List.{List, [], ◌∷◌, map, tail}
use Rattle.frontier.specs.declared.Record.{Record}
use Rattle.frontier.specs.Heap.{queue, Heap}
use Rattle.model.specs.TopK.{node}
use Rattle.model.specs.Search as model
use Rattle.model.specs.Search.{Waiting, names, opens, finds_spent, move_of}
use Rattle.model.specs.Frontier.{Waits, blocks}
use Rattle.moves.specs.declared.Move.{Move}
use Rattle.moves.specs.declared.Move.TheVariants.{Names, Opens, Spent}
use Rattle.moves.specs.declared.Moved.{Moved}
use Rattle.moves.specs.Ground.{Ground, record_in, waiting_in}

-- the frontier: the waiting nodes with their counts, in their order, that the first m records of the work slice stand for
abbrev pub frontier_in : Ground → List ℕ → ℕ → List Waiting
frontier_in G work m = map (waiting_in G.height) (queue work m)

-- a search keeps its frontier in the first 4 * N numbers of the work slice: a heap of records, each of a node and of the range in it
pub record Kept (G : Ground) (work : List ℕ) (m : ℕ) : Type 0 where
  pub heap : Heap work m
  pub room : 4 * G.documents ≤ length work
  pub few : m ≤ G.documents
  pub spans : queue work m ≡ map (record_in G) (blocks (frontier_in G work m))
  pub waits : Waits G.count G.lives G.height (frontier_in G work m)

-- r is the first of the records
abbrev pub First : List ℕ → ℕ → Record → Type 0
First work m r = queue work m ≡ r ∷ tail (queue work m)

-- the move on the first of the waiting nodes, with the allowance that is left
abbrev pub next_move : Ground → ℕ → List Waiting → model.Moved
next_move G left [] = record { move = finds_spent; waiting = [] }
next_move G left (w ∷ rest) = move_of G.count G.lives left w.block w.count rest

-- what waits once the first of the m waiting nodes is opened
abbrev pub once_opened : Ground → List ℕ → ℕ → List Waiting
once_opened G work m = (next_move G 1 (frontier_in G work m)).waiting

-- each case of a move as document 01 has it
abbrev pub move_is : Move → model.Move
move_is (Names d c) = names (record { document = d; count = c })
move_is (Opens start l) = opens (node l (start / 2 ^ l))
move_is Spent = finds_spent

-- a move that was made, and the nodes that wait after it in the work slice
abbrev pub moved_is : Ground → Moved → List ℕ → model.Moved
moved_is G r work = record { move = move_is r.made; waiting = frontier_in G work r.waiting }

-- of the work slice w a move makes v, in which m nodes wait; past the first 4 * N numbers it is untouched
pub record Moves (G : Ground) (w : List ℕ) (frontier : List Waiting) (v : List ℕ) (m : ℕ) : Type 0 where
  pub kept : Kept G v m
  pub waits : frontier_in G v m ≡ frontier
  pub rest : drop (4 * G.documents) v ≡ drop (4 * G.documents) w
  pub size : length v ≡ length w
