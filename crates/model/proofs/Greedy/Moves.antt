-- The moves of the search follow the visited nodes, and what the answer read off them comes to.
use Prim.Native.Nat.{ℕ, zero, suc, ◌+◌, ◌-◌, ◌*◌, ◌≤◌, ◌<◌}
use native.Mathlib.Omega.{arith}
use native.Mathlib.Nat.{zero-add}
use mathlib.Core.Path.{◌≡◌, refl, sym, ap, ap₂, ◌∙◌}
use mathlib.Core.List.{List, [], ◌∷◌, map}
use mathlib.Core.Bool.{Bool, true, false, cond}
use lib.ListN.{length, take, length-take, length-map}
use lib.Dec.{leb, leb-zero, leb-suc-zero, leb-suc-suc}
use Rattle.bits.specs.Sequences.{tally}
use Rattle.model.specs.Lists.{any, insert_by}
use Rattle.model.specs.Queries.{Pair}
use Rattle.model.specs.TopK.{Node, node, Answer, done, spent}
use Rattle.model.specs.Search.{Waiting, insert_waiting, Move, names, opens, finds_spent, is_opening, is_spent, named_in, answer_of, wait, wait_halves, moves_from}
use Rattle.model.specs.Frontier.{waiting}
use Rattle.model.proofs.Greedy.Abstract.{leaf_pair, covered_by, answer_by}
use Rattle.model.proofs.Greedy.Nodes.{documents}
use Rattle.model.proofs.Greedy.Frontier.{prior_node, join, halves}
use Rattle.model.proofs.Greedy.Visits.{visits, Ends}

-- ---- the frontier is the list of nodes with their counts

module _ (count : Node → ℕ) (lives : Node → Bool) where
  insert-waiting : (n : Node) (ms : List Node)
      → insert_waiting (waiting count n) (map (waiting count) ms) ≡ map (waiting count) (insert_by (prior_node count) n ms)
  insert-waiting n [] = refl
  insert-waiting n (m ∷ ms) = go (prior_node count n m) (insert-waiting n ms)
    where
      go : (b : Bool) → insert_waiting (waiting count n) (map (waiting count) ms) ≡ map (waiting count) (insert_by (prior_node count) n ms)
          → cond b (waiting count n ∷ waiting count m ∷ map (waiting count) ms) (waiting count m ∷ insert_waiting (waiting count n) (map (waiting count) ms))
          ≡ map (waiting count) (cond b (n ∷ m ∷ ms) (m ∷ insert_by (prior_node count) n ms))
      go true i = refl
      go false i = ap (λ (r : List Waiting). waiting count m ∷ r) i

  pub wait-join : (n : Node) (ms : List Node) → wait count lives n (map (waiting count) ms) ≡ map (waiting count) (join count lives n ms)
  wait-join n ms = go (lives n)
    where
      go : (b : Bool)
          → cond b (insert_waiting (waiting count n) (map (waiting count) ms)) (map (waiting count) ms)
          ≡ map (waiting count) (cond b (insert_by (prior_node count) n ms) ms)
      go true = insert-waiting n ms
      go false = refl

  pub wait-halves : (l q : ℕ) (ms : List Node)
      → wait_halves count lives l q (map (waiting count) ms) ≡ map (waiting count) (halves count lives l q ms)
  wait-halves l q ms =
      ap (wait count lives (node l (2 * q))) (wait-join (node l (2 * q + 1)) ms) ∙ wait-join (node l (2 * q)) (join count lives (node l (2 * q + 1)) ms)

-- ---- the moves along a list of nodes

abbrev pub moves_along : (Node → ℕ) → ℕ → ℕ → List Node → List Move
moves_along count zero left ns = []
moves_along count (suc k) left [] = []
moves_along count (suc k) left (node zero q ∷ ns) = names (leaf_pair count q) ∷ moves_along count k left ns
moves_along count (suc k) zero (node (suc l) q ∷ ns) = finds_spent ∷ []
moves_along count (suc k) (suc left) (node (suc l) q ∷ ns) = opens (node (suc l) q) ∷ moves_along count (suc k) left ns

module _ (count : Node → ℕ) (lives : Node → Bool) where
  -- each move names one of the k documents or uses up the allowance, so that k + left moves are enough
  pub moves_visits : (f g k left : ℕ) (ms : List Node) → k + left ≤ f → k + left ≤ g
      → moves_from count lives f k left (map (waiting count) ms) ≡ moves_along count k left (visits count lives g ms)
  moves_visits zero g zero left ms a b = refl
  moves_visits (suc f) g zero left ms a b = refl
  moves_visits zero g (suc k) left ms a b = absurd (omega arith)
  moves_visits (suc f) zero (suc k) left ms a b = absurd (omega arith)
  moves_visits (suc f) (suc g) (suc k) left [] a b = refl
  moves_visits (suc f) (suc g) (suc k) left (node zero q ∷ ms) a b =
      ap (λ (r : List Move). names (leaf_pair count q) ∷ r) (moves_visits f g k left ms (omega arith) (omega arith))
  moves_visits (suc f) (suc g) (suc k) zero (node (suc l) q ∷ ms) a b = refl
  moves_visits (suc f) (suc g) (suc k) (suc left) (node (suc l) q ∷ ms) a b =
      let e : suc left - 1 ≡ left = omega arith in
      ap (λ (r : List Move). opens (node (suc l) q) ∷ r)
      (ap₂ (moves_from count lives f (suc k)) e (wait-halves count lives l q ms)
      ∙ moves_visits f g (suc k) left (halves count lives l q ms) (omega arith) (omega arith))

-- ---- the answer read off the moves, by the first of them

abbrev named : Pair → Answer → Answer
named p (done ps c) = done (p ∷ ps) c
named p (spent ps c) = spent (p ∷ ps) c

abbrev opened : Answer → Answer
opened (done ps c) = done ps (suc c)
opened (spent ps c) = spent ps (suc c)

answer_names : (p : Pair) (ms : List Move) → answer_of (names p ∷ ms) ≡ named p (answer_of ms)
answer_names p ms = rw (zero-add (tally is_opening ms)) (go (any is_spent ms))
  where
    go : (b : Bool)
        → cond b (spent (p ∷ named_in ms) (tally is_opening ms)) (done (p ∷ named_in ms) (tally is_opening ms))
        ≡ named p (cond b (spent (named_in ms) (tally is_opening ms)) (done (named_in ms) (tally is_opening ms)))
    go true = refl
    go false = refl

answer_opens : (n : Node) (ms : List Move) → answer_of (opens n ∷ ms) ≡ opened (answer_of ms)
answer_opens n ms = let e : 1 + tally is_opening ms ≡ suc (tally is_opening ms) = omega arith in rw e (go (any is_spent ms))
  where
    go : (b : Bool)
        → cond b (spent (named_in ms) (suc (tally is_opening ms))) (done (named_in ms) (suc (tally is_opening ms)))
        ≡ opened (cond b (spent (named_in ms) (tally is_opening ms)) (done (named_in ms) (tally is_opening ms)))
    go true = refl
    go false = refl

-- ---- what the moves come to

-- how many inner nodes stand before the m-th leaf
abbrev pub toll : List Node → ℕ → ℕ
toll ns zero = 0
toll [] (suc m) = 0
toll (node zero q ∷ ns) (suc m) = toll ns m
toll (node (suc l) q ∷ ns) (suc m) = suc (toll ns (suc m))

-- that number as the need of a front part
abbrev pub toll_of : List Node → List Pair → ℕ
toll_of ns ps = toll ns (length ps)

-- a leaf first
covered_leaf : (q : ℕ) (ns : List Node) (left : ℕ) (p : Pair) (ps : List Pair) (m : ℕ)
    → covered_by (toll_of (node zero q ∷ ns)) left (p ∷ ps) (suc m) ≡ p ∷ covered_by (toll_of ns) left ps m
covered_leaf q ns left p ps zero = rw (leb-zero left)
covered_leaf q ns left p ps (suc m) = go (leb (toll_of ns (take (suc m) ps)) left) (covered_leaf q ns left p ps m)
  where
    go : (b : Bool) → covered_by (toll_of (node zero q ∷ ns)) left (p ∷ ps) (suc m) ≡ p ∷ covered_by (toll_of ns) left ps m
        → cond b (p ∷ take (suc m) ps) (covered_by (toll_of (node zero q ∷ ns)) left (p ∷ ps) (suc m))
        ≡ p ∷ cond b (take (suc m) ps) (covered_by (toll_of ns) left ps m)
    go true e = refl
    go false e = e

answer_leaf : (q : ℕ) (ns : List Node) (left : ℕ) (p : Pair) (ps : List Pair)
    → answer_by (toll_of (node zero q ∷ ns)) left (p ∷ ps) ≡ named p (answer_by (toll_of ns) left ps)
answer_leaf q ns left p ps = go (leb (toll_of ns ps) left)
  where
    go : (b : Bool)
        → cond b (done (p ∷ ps) (toll_of ns ps)) (spent (covered_by (toll_of (node zero q ∷ ns)) left (p ∷ ps) (suc (length ps))) left)
        ≡ named p (cond b (done ps (toll_of ns ps)) (spent (covered_by (toll_of ns) left ps (length ps)) left))
    go true = refl
    go false = ap (λ (r : List Pair). spent r left) (covered_leaf q ns left p ps (length ps))

-- an inner node first
covered_open : (l q : ℕ) (ns : List Node) (left : ℕ) (p : Pair) (ps : List Pair) (m : ℕ)
    → covered_by (toll_of (node (suc l) q ∷ ns)) (suc left) (p ∷ ps) m ≡ covered_by (toll_of ns) left (p ∷ ps) m
covered_open l q ns left p ps zero = refl
covered_open l q ns left p ps (suc m) = rw (leb-suc-suc (toll ns (suc (length (take m ps)))) left, covered_open l q ns left p ps m)

answer_open : (l q : ℕ) (ns : List Node) (left : ℕ) (ps : List Pair) → 0 < length ps
    → answer_by (toll_of (node (suc l) q ∷ ns)) (suc left) ps ≡ opened (answer_by (toll_of ns) left ps)
answer_open l q ns left [] h = absurd (omega arith)
answer_open l q ns left (p ∷ ps) h =
    rw (leb-suc-suc (toll ns (suc (length ps))) left, covered_open l q ns left p ps (suc (length ps))) (go (leb (toll_of ns (p ∷ ps)) left))
  where
    go : (b : Bool)
        → cond b (done (p ∷ ps) (suc (toll_of ns (p ∷ ps)))) (spent (covered_by (toll_of ns) left (p ∷ ps) (suc (length ps))) (suc left))
        ≡ opened (cond b (done (p ∷ ps) (toll_of ns (p ∷ ps))) (spent (covered_by (toll_of ns) left (p ∷ ps) (suc (length ps))) left))
    go true = refl
    go false = refl

-- an inner node first, and no opening left
covered_stop : (l q : ℕ) (ns : List Node) (p : Pair) (ps : List Pair) (m : ℕ) → covered_by (toll_of (node (suc l) q ∷ ns)) 0 (p ∷ ps) m ≡ []
covered_stop l q ns p ps zero = refl
covered_stop l q ns p ps (suc m) = rw (leb-suc-zero (toll ns (suc (length (take m ps)))), covered_stop l q ns p ps m)

answer_stop : (l q : ℕ) (ns : List Node) (ps : List Pair) → 0 < length ps → answer_by (toll_of (node (suc l) q ∷ ns)) 0 ps ≡ spent [] 0
answer_stop l q ns [] h = absurd (omega arith)
answer_stop l q ns (p ∷ ps) h =
    rw (leb-suc-zero (toll ns (suc (length ps))), covered_stop l q ns p ps (suc (length ps)))

-- the documents of a list of nodes, with their counts
abbrev pub pairs_in : (Node → ℕ) → List Node → List Pair
pairs_in count ns = map (leaf_pair count) (documents ns)

some : (count : Node → ℕ) (k : ℕ) (ns : List Node) → 0 < length (documents ns) → 0 < length (take (suc k) (pairs_in count ns))
some count k ns h = omega (arith, length-take (suc k) (pairs_in count ns), length-map (documents ns) (leaf_pair count))

pub answer_moves : (count : Node → ℕ) (k left : ℕ) (ns : List Node) → Ends ns
    → answer_of (moves_along count k left ns) ≡ answer_by (toll_of ns) left (take k (pairs_in count ns))
answer_moves count zero left ns e = rw (leb-zero left)
answer_moves count (suc k) left [] e = rw (leb-zero left)
answer_moves count (suc k) left (node zero q ∷ ns) e =
    answer_names (leaf_pair count q) (moves_along count k left ns)
    ∙ ap (named (leaf_pair count q)) (answer_moves count k left ns e)
    ∙ sym (answer_leaf q ns left (leaf_pair count q) (take k (pairs_in count ns)))
answer_moves count (suc k) zero (node (suc l) q ∷ ns) e =
    sym (answer_stop l q ns (take (suc k) (pairs_in count ns)) (some count k ns e.0))
answer_moves count (suc k) (suc left) (node (suc l) q ∷ ns) e =
    answer_opens (node (suc l) q) (moves_along count (suc k) left ns)
    ∙ ap opened (answer_moves count (suc k) left ns e.1)
    ∙ sym (answer_open l q ns left (take (suc k) (pairs_in count ns)) (some count k ns e.0))
