-- The top-k answer over any count of nodes and any test for the nodes that live, in the shape of specs/TopK; what the search asks of both.
use Prim.Native.Nat.{ℕ, zero, suc, ◌+◌, ◌*◌, ◌≤◌}
use native.Mathlib.Omega.{arith}
use mathlib.Core.Path.{◌≡◌}
use mathlib.Core.List.{List, map}
use mathlib.Core.Bool.{Bool, ◌&&◌, ◌||◌}
use lib.ListN.{take}
use lib.Dec.{leb, ltb, eqb}
use Rattle.bits.specs.Sequences.{tally, below}
use Rattle.model.specs.Lists.{keep}
use Rattle.model.specs.Queries.{Pair}
use Rattle.model.specs.TopK.{Node, node, start, inner_nodes, ranking, Answer}
pub use Rattle.model.specs.TopK.{need_by, covered_by, answer_by}

-- the count never rises from a node to its halves; a node lives exactly where a half of it does. A node may live with count 0
pub record Counted (count : Node → ℕ) (lives : Node → Bool) : Type 0 where
  pub lower_le : (l q : ℕ) → count (node l (2 * q)) ≤ count (node (suc l) q)
  pub upper_le : (l q : ℕ) → count (node l (2 * q + 1)) ≤ count (node (suc l) q)
  pub lives_halves : (l q : ℕ) → lives (node (suc l) q) ≡ (lives (node l (2 * q)) || lives (node l (2 * q + 1)))

-- as where the count is the sum of the halves' counts
pub counted-of-sum : (count : Node → ℕ) (lives : Node → Bool)
    → ((l q : ℕ) → count (node (suc l) q) ≡ count (node l (2 * q)) + count (node l (2 * q + 1)))
    → ((l q : ℕ) → lives (node (suc l) q) ≡ (lives (node l (2 * q)) || lives (node l (2 * q + 1)))) → Counted count lives
counted-of-sum count lives sum either = record {
  lower_le = λ l q. omega (arith, sum l q);
  upper_le = λ l q. omega (arith, sum l q);
  lives_halves = either;
}

-- a document with the count of its leaf
abbrev pub leaf_pair : (Node → ℕ) → ℕ → Pair
leaf_pair count d = record { document = d; count = count (node zero d) }

module _ (count : Node → ℕ) (lives : Node → Bool) where
  -- the documents below N whose leaf lives, by larger count and then lower number
  abbrev pub ranking_of : ℕ → List Pair
  ranking_of N = ranking (map (leaf_pair count) (keep (λ d. lives (node zero d)) (below N)))

  -- the node lives, and its count is above that of the pair, or equal to it with a start not above the pair's document
  abbrev pub needed_for : Pair → Node → Bool
  needed_for p n = lives n && (ltb p.count (count n) || eqb (count n) p.count && leb (start n) p.document)

  -- the number of such nodes of two or more numbers
  abbrev pub need_for : ℕ → Pair → ℕ
  need_for h p = tally (needed_for p) (inner_nodes h)

  -- the top-k answer: of the ranking's first k, all or the longest front part that the allowance covers
  abbrev pub top_k_of : ℕ → ℕ → ℕ → ℕ → Answer
  top_k_of h N k allowance = answer_by (need_by (need_for h)) allowance (take k (ranking_of N))
