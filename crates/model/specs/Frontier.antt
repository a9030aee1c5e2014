-- What holds of the waiting nodes (blocks) from move to move. Document 01, "The questions", the shortlist.
-- It is told over any count of nodes, and any test for the nodes that live, that is, that may wait.
use Rattle.std.specs.Prelude.{ℕ, zero, suc, ◌+◌, ◌*◌, ◌^◌, ◌≤◌, ◌≡◌, List, [], ◌∷◌, ◌++◌, map, Bool, ◌&&◌, ◌||◌, leb, ltb, eqb}
use Rattle.bits.specs.Sequences.{tally}
use Rattle.model.specs.Lists.{Every, Sorted}
use Rattle.model.specs.TopK.{Node, node}
use Rattle.model.specs.Search.{Waiting}

-- a node waits with its count
abbrev pub waiting : (Node → ℕ) → Node → Waiting
waiting count n = record { block = n; count = count n }

-- the nodes that wait
abbrev pub blocks : List Waiting → List Node
blocks frontier = map (λ w. w.block) frontier

-- ---- the nodes under a node, itself first

abbrev pub nodes : ℕ → ℕ → List Node
nodes zero q = node zero q ∷ []
nodes (suc l) q = node (suc l) q ∷ (nodes l (2 * q) ++ nodes l (2 * q + 1))

abbrev pub under : Node → List Node
under (node l q) = nodes l q

abbrev pub all_under : List Node → List Node
all_under [] = []
all_under (n ∷ ns) = under n ++ all_under ns

-- ---- the order: by larger count, then lower place

-- count c at place p stands ahead of count d at place q, or is level with it
abbrev pub ahead_of : ℕ → ℕ → ℕ → ℕ → Bool
ahead_of c p d q = ltb d c || eqb d c && leb p q

-- twice the start, and one more at a leaf: a leaf stands behind the wider nodes that start where it does
abbrev pub place : Node → ℕ
place (node zero q) = 2 * (q * 2 ^ 0) + 1
place (node (suc l) q) = 2 * (q * 2 ^ suc l)

-- n stands ahead of m, or is level with it
abbrev pub ahead_node : (Node → ℕ) → Node → Node → Bool
ahead_node count n m = ahead_of (count n) (place n) (count m) (place m)

-- ---- what holds of the waiting nodes

-- the waiting nodes of a tree of height h live and stand in order, and no more is under them than in the tree, so that no two have a number in common
pub record Ready (count : Node → ℕ) (lives : Node → Bool) (h : ℕ) (ms : List Node) : Type 0 where
  pub alive : Every lives ms
  pub sorted : Sorted (ahead_node count) ms
  pub inside : (p : Node → Bool) → tally p (all_under ms) ≤ tally p (nodes h 0)

-- each node of the frontier waits with its count, and the nodes are ready for a search of height h
pub record Waits (count : Node → ℕ) (lives : Node → Bool) (h : ℕ) (frontier : List Waiting) : Type 0 where
  pub counts : frontier ≡ map (waiting count) (blocks frontier)
  pub ready : Ready count lives h (blocks frontier)
