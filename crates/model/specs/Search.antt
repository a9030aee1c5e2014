-- The search by moves on the waiting nodes (blocks). Document 01, "The questions", the shortlist.
-- It is told over any count of nodes, and any test for the nodes that live, that is, that may wait.
use Rattle.std.specs.Prelude.{ℕ, zero, suc, ◌+◌, ◌-◌, ◌*◌, List, [], ◌∷◌, Bool, true, false, cond, ◌&&◌, ◌||◌, length, ltb, eqb}
use Rattle.bits.specs.Sequences.{tally}
use Rattle.model.specs.Lists.{any, insert_by}
use Rattle.model.specs.Queries.{Pair}
use Rattle.model.specs.TopK.{Node, node, start, count_in, Answer, done, spent}

-- a waiting node with its count
pub record Waiting : Type 0 where
  pub block : Node
  pub count : ℕ

-- a larger count goes first, equal counts by lower start
abbrev pub prior : Waiting → Waiting → Bool
prior w v =
    ltb v.count w.count || eqb v.count w.count && ltb (start w.block) (start v.block)

-- the frontier: the waiting nodes in that order
abbrev pub insert_waiting : Waiting → List Waiting → List Waiting
insert_waiting = insert_by prior

-- each move names a document with its count, opens a node, or finds its allowance spent
pub data Move : Type 0 where
  names : Pair → Move
  opens : Node → Move
  finds_spent : Move

-- a move, and what waits after it
pub record Moved : Type 0 where
  pub move : Move
  pub waiting : List Waiting

abbrev pub is_opening : Move → Bool
is_opening (names p) = false
is_opening (opens n) = true
is_opening finds_spent = false

abbrev pub is_spent : Move → Bool
is_spent (names p) = false
is_spent (opens n) = false
is_spent finds_spent = true

abbrev pub named_in : List Move → List Pair
named_in [] = []
named_in (names p ∷ ms) = p ∷ named_in ms
named_in (opens n ∷ ms) = named_in ms
named_in (finds_spent ∷ ms) = named_in ms

-- the documents named; 'spent' if the last move finds the allowance spent, else 'done'; how many of the moves opened a node
abbrev pub answer_of : List Move → Answer
answer_of ms = cond (any is_spent ms) (spent (named_in ms) (tally is_opening ms)) (done (named_in ms) (tally is_opening ms))

module _ (count : Node → ℕ) (lives : Node → Bool) where
  -- a node that lives waits with its count
  abbrev pub wait : Node → List Waiting → List Waiting
  wait n frontier = cond (lives n) (insert_waiting (record { block = n; count = count n }) frontier) frontier

  -- the two halves of a node wait once it is opened
  abbrev pub wait_halves : ℕ → ℕ → List Waiting → List Waiting
  wait_halves l q frontier = wait (node l (2 * q)) (wait (node l (2 * q + 1)) frontier)

  -- the move on the first of the waiting nodes, with the allowance that is left
  abbrev pub move_of : ℕ → Node → ℕ → List Waiting → Moved
  move_of left (node zero q) c rest = record { move = names (record { document = q; count = c }); waiting = rest }
  move_of zero (node (suc l) q) c rest = record { move = finds_spent; waiting = record { block = node (suc l) q; count = c } ∷ rest }
  move_of (suc left) (node (suc l) q) c rest = record { move = opens (node (suc l) q); waiting = wait_halves l q rest }

  -- the moves, of which there are at most `fuel`, until k documents are named or nothing waits
  abbrev pub moves_from : ℕ → ℕ → ℕ → List Waiting → List Move
  moves_from zero k left frontier = []
  moves_from (suc fuel) zero left frontier = []
  moves_from (suc fuel) (suc k) left [] = []
  moves_from (suc fuel) (suc k) left (w ∷ rest) =
      let m = move_of left w.block w.count rest in
      elim m.move [
        | names p ↦ names p ∷ moves_from fuel k left m.waiting
        | opens n ↦ opens n ∷ moves_from fuel (suc k) (left - 1) m.waiting
        | finds_spent ↦ finds_spent ∷ []
      ]

-- the range of all numbers below 2 ^ h waits first, with the size of the range for its count
abbrev pub begin : ℕ → List ℕ → List Waiting
begin h xs = cond (ltb 0 (length xs)) (record { block = node h 0; count = length xs } ∷ []) []

-- a node of count 0 never waits
abbrev pub occupied : List ℕ → Node → Bool
occupied xs n = ltb 0 (count_in xs n)

-- the moves of a search: each names a document or opens a node, so that k and the allowance bound them
abbrev pub search_moves : ℕ → List ℕ → ℕ → ℕ → List Move
search_moves h xs k allowance = moves_from (count_in xs) (occupied xs) (k + allowance) k allowance (begin h xs)
