-- M-100, M-101 and M-107 (document 02) as one record, in the shape of `Demand3`: a field for each of M-100's sentences, with scores where that has counts.
-- `proofs/Weighted/Demand` draws it from `weighted_result`.
use Rattle.std.specs.Prelude.{ℕ, ◌+◌, ◌*◌, ◌≤◌, ◌<◌, min, ◌≡◌, ◌⊎◌, List, [], ◌∷◌, map, Bool, true, ◌&&◌, ◌||◌, length, take, replicate, leb, ltb, eqb}
use Rattle.bits.specs.Sequences.{tally, below, occurrences}
use Rattle.bits.specs.Bits.{sum}
use Rattle.model.specs.Lists.{any, Every, Sorted, overwrite}
use Rattle.model.specs.Outcome.{answered}
use Rattle.model.specs.Rows.{height}
use Rattle.model.specs.Format.{Library}
use Rattle.model.specs.Queries.{Pair, flat, under}
use Rattle.model.specs.RarestFirst.{RarestFirst}
use Rattle.model.specs.TopK.{Node, node, start, count_in, inner_nodes, ahead, last, Ended, done_with, spent_with, SearchResult}
use Rattle.model.specs.Search.{Move, is_opening, wait, moves_from}
use Rattle.model.specs.Demand3.{is_done, figure}
use Rattle.model.specs.Weighted.{Largest, weighted_moves}

-- of the terms (words) of a question
module _ (lib : Library) (terms : List ℕ) where
  -- whether a document, or a node (block), has an entry under one of them
  abbrev pub has_entry : ℕ → Bool
  has_entry d = any (λ t. ltb 0 (occurrences d (under lib t))) terms

  abbrev pub node_has_entry : Node → Bool
  node_has_entry n = any (λ t. ltb 0 (count_in (under lib t) n)) terms

  -- the sum of weight * count, of a document and of a node, whatever the weights
  abbrev pub score : (ℕ → ℕ) → ℕ → ℕ
  score weight_of d = sum (map (λ t. weight_of t * occurrences d (under lib t)) terms)

  abbrev pub node_score : (ℕ → ℕ) → Node → ℕ
  node_score weight_of n = sum (map (λ t. weight_of t * count_in (under lib t) n) terms)

-- of the given terms of a library: what the weighted search leaves where `out` was lent for the answers and `work` to work in
pub record WeightedDemand (lib : Library) (given : List ℕ) (k allowance : ℕ) (out work : List ℕ) (weighted : SearchResult Ended) : Type 0 where
  -- M-101: "a repeated word counts once in .. weighted totals"; M-107: "by ascending number of entries, equal ones by word number"
  pub terms : List ℕ
  pub terms_rarest_first : RarestFirst lib given terms
  -- "A word found in df sheets weighs the largest g with 2^g × df^4 at most N^4"
  pub weight_of : ℕ → ℕ
  pub weighs : (t : ℕ) → 0 < length (under lib t)
      → Largest lib.documents (tally (λ d. ltb 0 (occurrences d (under lib t))) (below lib.documents)) (weight_of t)
  -- "a word without entries weighs 0"
  pub weighs_none : (t : ℕ) → length (under lib t) ≡ 0 → weight_of t ≡ 0
  -- "the list draws on all sheets with at least one of the words, score 0 included": the full list has exactly k of them, or all if there are fewer
  pub full : List Pair
  pub exactly_k : length full ≡ min k (tally (has_entry lib terms) (below lib.documents))
  pub different : (d : ℕ) → tally (λ p. eqb d p.document) full ≤ 1
  -- "and on no others"
  pub of_the_terms : Every (λ p. has_entry lib terms p.document) full
  -- "A sheet's score is the sum of weight × count": each has its exact score
  pub exact_score : Every (λ p. eqb p.count (score lib terms weight_of p.document)) full
  -- "Order .. as for the shortlist, with scores where it has counts": larger scores first and equal scores by lower number
  pub in_order : Sorted ahead full
  -- and every other document of the terms comes after those listed
  pub others_after : (d : ℕ) → has_entry lib terms d ≡ true
      → (0 < tally (λ p. eqb d p.document) full) ⊎ Every (λ p. ahead p (record { document = d; count = score lib terms weight_of d })) full
  -- the need: the number of nodes of two or more numbers whose score is above the last listed score, or equal to it with a start not above the last listed
  -- document; one without an entry is "never part of the need, even where the last score is 0"
  pub need_of : List Pair → ℕ
  pub needs : (p : Pair) (ps : List Pair)
      → need_of (p ∷ ps)
      ≡ tally (λ n.
      node_has_entry lib terms n
      && (ltb (last p ps).count (node_score lib terms weight_of n)
      || eqb (node_score lib terms weight_of n) (last p ps).count && leb (start n) (last p ps).document)) (inner_nodes (height lib.documents))
  -- an empty list needs none
  pub needs_none : need_of [] ≡ 0
  -- 'done' with the full list and its need ..
  pub done : need_of full ≤ allowance
      → (weighted.outcome ≡ answered (done_with (length full) (need_of full))) × (weighted.answers ≡ overwrite (flat full) out)
  -- .. exactly when the allowance covers that need
  pub exactly_when : is_done weighted.outcome ≡ leb (need_of full) allowance
  -- "front part": the longest one of the full list whose own need the allowance covers, the first so many pairs
  pub front : ℕ
  pub front_part : front ≤ length full
  pub front_covered : need_of (take front full) ≤ allowance
  pub front_longest : (n : ℕ) → front < n → n ≤ length full → allowance < need_of (take n full)
  -- otherwise 'spent' with the allowance and that front part
  pub spent : allowance < need_of full
      → (weighted.outcome ≡ answered (spent_with front allowance)) × (weighted.answers ≡ overwrite (flat (take front full)) out)
  -- "openings": either number is how many moves opened a node
  pub moves : List Move
  pub openings : figure weighted.outcome ≡ tally is_opening moves
  -- they are the moves of the search (`Weighted`) ..
  pub moves_are : moves ≡ weighted_moves (map (λ t. record { weight = weight_of t; entries = under lib t }) terms) (height lib.documents) k allowance
  -- .. in which the node of all numbers waits first and then the halves of each that is opened, if it may: "a block with an entry of these words waits even
  -- with score 0, and one without is never waiting"
  pub moves_begin : moves
      ≡ moves_from (node_score lib terms weight_of) (node_has_entry lib terms) (k + allowance) k allowance
      (wait (node_score lib terms weight_of) (node_has_entry lib terms) (node (height lib.documents) 0) [])
  -- "the work slice's end": its first 4 * N numbers are 0, and the rest is untouched
  pub working : weighted.work ≡ overwrite (replicate (4 * lib.documents) 0) work
