-- The weighted shortlist: rare terms weigh more. Document 02, M-100, after document 000.
use Rattle.std.specs.Prelude.{ℕ, zero, suc, ◌+◌, ◌*◌, ◌^◌, ◌≤◌, min, List, [], ◌∷◌, map, Bool, cond, ◌&&◌, ◌||◌, length, take, leb, ltb, eqb}
use Rattle.bits.specs.Sequences.{tally, below, occurrences}
use Rattle.bits.specs.Bits.{sum}
use Rattle.model.specs.Lists.{keep, any}
use Rattle.model.specs.Outcome.{answered, refuse, and_then}
use Rattle.model.specs.Rows.{height}
use Rattle.model.specs.Format.{Library}
use Rattle.model.specs.Opening.{opened}
use Rattle.model.specs.Queries.{Pair, flat, under}
use Rattle.model.specs.RarestFirst.{rarest_first}
use Rattle.model.specs.TopK.{Node, node, start, count_in, inner_nodes, ranking, need_by, Answer, answer_by, Ended, Found, found_of, SearchResult, found_into}
use Rattle.model.specs.Search.{Waiting, Move, moves_from}

-- ---- weights

-- df: how many of the documents below N have an entry, however many it is
abbrev pub documents_in : ℕ → List ℕ → ℕ
documents_in N xs = tally (λ d. ltb 0 (occurrences d xs)) (below N)

-- g is the largest with 2 ^ g * df ^ 4 at most N ^ 4
pub record Largest (N df g : ℕ) : Type 0 where
  pub fits : 2 ^ g * df ^ 4 ≤ N ^ 4
  pub most : (m : ℕ) → 2 ^ m * df ^ 4 ≤ N ^ 4 → m ≤ g

-- computed: the largest number up to n that passes a test; 0 where none above it does
abbrev pub largest : (ℕ → Bool) → ℕ → ℕ
largest p zero = 0
largest p (suc n) =
    let smaller = largest p n in
    cond (p (suc n)) (suc n) smaller

abbrev pub weighs : ℕ → ℕ → ℕ → Bool
weighs N df g = leb (2 ^ g * df ^ 4) (N ^ 4)

-- the largest such g, quarters of the logarithm of N / df to base 2; 0 without entries. None is above 4 * h (`weight-largest` in proofs/Weighted/Weights)
abbrev pub weight : ℕ → ℕ → ℕ
weight N df = cond (eqb df 0) 0 (largest (weighs N df) (4 * height N))

-- ---- scores

-- the entries under a term, with its weight
pub record Weighed : Type 0 where
  pub weight : ℕ
  pub entries : List ℕ

abbrev pub weighed_term : Library → ℕ → Weighed
weighed_term lib t = record { weight = weight lib.documents (documents_in lib.documents (under lib t)); entries = under lib t }

-- one for each of the terms
abbrev pub weighed : Library → List ℕ → List Weighed
weighed lib terms = map (weighed_term lib) terms

module _ (ws : List Weighed) where
  -- a document's score: the sum of weight * count
  abbrev pub score_of : ℕ → ℕ
  score_of d = sum (map (λ w. w.weight * occurrences d w.entries) ws)

  -- whether it has an entry, whatever its score
  abbrev pub is_found : ℕ → Bool
  is_found d = any (λ w. ltb 0 (occurrences d w.entries)) ws

  -- the same of a node: its score is that of all its entries, and it lives where it has one
  abbrev pub score_in : Node → ℕ
  score_in n = sum (map (λ w. w.weight * count_in w.entries n) ws)

  abbrev pub lives_in : Node → Bool
  lives_in n = any (λ w. ltb 0 (count_in w.entries n)) ws

  -- ---- the full list, the need, and the answer, as for the shortlist

  -- the first k of the documents with an entry, by larger score and then lower number
  abbrev pub weighted_list : ℕ → ℕ → List Pair
  weighted_list N k = take k (ranking (map (λ d. record { document = d; count = score_of d }) (keep is_found (below N))))

  -- the node lives, and its score is above that of the pair, or equal to it with a start not above the pair's document
  abbrev pub weighted_needed : Pair → Node → Bool
  weighted_needed p n = lives_in n && (ltb p.count (score_in n) || eqb (score_in n) p.count && leb (start n) p.document)

  -- the number of such nodes of two or more numbers
  abbrev pub weighted_need : ℕ → Pair → ℕ
  weighted_need h p = tally (weighted_needed p) (inner_nodes h)

  abbrev pub weighted_top_k : ℕ → ℕ → ℕ → ℕ → Answer
  weighted_top_k h N k allowance = answer_by (need_by (weighted_need h)) allowance (weighted_list N k)

  -- ---- the search by moves, as for the shortlist

  -- the node of all numbers below 2 ^ h waits first, if a term has an entry. Its score comes from the weights and the terms' lengths
  abbrev pub root_score : ℕ
  root_score = sum (map (λ w. w.weight * length w.entries) ws)

  abbrev pub root_lives : Bool
  root_lives = any (λ w. ltb 0 (length w.entries)) ws

  abbrev pub weighted_begin : ℕ → List Waiting
  weighted_begin h = cond root_lives (record { block = node h 0; count = root_score } ∷ []) []

  -- a node with an entry waits even with score 0, and one without never does; every other score comes through moves
  abbrev pub weighted_moves : ℕ → ℕ → ℕ → List Move
  weighted_moves h k allowance = moves_from score_in lives_in (k + allowance) k allowance (weighted_begin h)

-- ---- the result

-- what a search of a library finds
abbrev pub weighted_found : Library → List ℕ → ℕ → ℕ → Found Ended
weighted_found lib terms k allowance = found_of flat lib.documents (weighted_top_k (weighed lib terms) (height lib.documents) lib.documents k allowance)

-- the question holds so many of the given numbers, one to eight; refused as the conjunction is, then as the shortlist is. After the refusals a repeated term
-- counts once (M-101), and scores are added up by the rarest term first (M-107)
abbrev pub weighted_result : List ℕ → List ℕ → ℕ → ℕ → ℕ → List ℕ → List ℕ → SearchResult Ended
weighted_result bytes numbers size k allowance answers work =
    let terms = take size numbers in
    found_into answers work
    (and_then (opened bytes)
    (λ lib.
    refuse 10 (eqb size 0 || ltb 8 size)
    (refuse 11 (any (leb (length lib.lengths)) terms)
    (refuse 12 (ltb (length answers) (2 * min k lib.documents))
    (refuse 13 (ltb (length work) (4 * lib.documents))
    (answered (weighted_found lib (rarest_first lib terms) k allowance)))))))
