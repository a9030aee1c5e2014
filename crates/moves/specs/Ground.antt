-- What a search by moves goes by, and its waiting nodes as records of the frontier.
use Rattle.std.specs.Prelude.{ℕ, ◌+◌, ◌-◌, ◌*◌, ◌/◌, ◌%◌, ◌^◌, List, [], Bool}
use Rattle.frontier.specs.declared.Record.{Record}
use Rattle.model.specs.TopK.{Node, node}
use Rattle.model.specs.Search.{Waiting, Move, wait, moves_from}

-- a tree over N documents, a count of its nodes, the nodes that live, and two numbers that go with a waiting node
pub record Ground : Type 0 where
  pub height : ℕ
  pub documents : ℕ
  pub count : Node → ℕ
  pub lives : Node → Bool
  pub third : Node → ℕ
  pub fourth : Node → ℕ

-- the root waits first, if it lives
abbrev pub root_waits : Ground → List Waiting
root_waits G = wait G.count G.lives (node G.height 0) []

-- the moves of a search
abbrev pub moves_of : Ground → ℕ → ℕ → List Move
moves_of G k allowance = moves_from G.count G.lives (k + allowance) k allowance (root_waits G)

-- the count; the start and the depth. Starts differ, so that the second number orders as the start does
abbrev pub record_in : Ground → Node → Record
record_in G (node l q) = record {
  first = G.count (node l q);
  second = q * 2 ^ l * 16 + (G.height - l);
  third = G.third (node l q);
  fourth = G.fourth (node l q);
}

-- the node back, with its count
abbrev pub waiting_in : ℕ → Record → Waiting
waiting_in h r = record { block = node (h - r.second % 16) (r.second / 16 / 2 ^ (h - r.second % 16)); count = r.first }
