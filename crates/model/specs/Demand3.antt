-- Demand 3 as one record, with a field for each of its sentences. `top_k/proofs/Demand3/Theorem` draws it from what the operations promise.
use Rattle.std.specs.Prelude.{ℕ, ◌*◌, ◌≤◌, ◌<◌, min, ◌≡◌, ◌⊎◌, List, [], ◌∷◌, Bool, true, false, ◌&&◌, ◌||◌, length, take, leb, ltb, eqb}
use Rattle.bits.specs.Sequences.{tally, below, occurrences}
use Rattle.model.specs.Lists.{Every, Sorted, overwrite}
use Rattle.model.specs.Outcome.{Outcome, answered, refused}
use Rattle.model.specs.Rows.{height}
use Rattle.model.specs.Queries.{Pair}
use Rattle.model.specs.TopK.{start, count_in, inner_nodes, ahead, last, with_places, Ended, done_with, spent_with, SearchResult}
use Rattle.model.specs.Search.{is_opening, search_moves}

-- whether it is 'done'
abbrev pub is_done : Outcome Ended → Bool
is_done (answered (done_with listed openings)) = true
is_done (answered (spent_with listed allowance)) = false
is_done (refused number) = false

-- its number: the openings, or the allowance
abbrev pub figure : Outcome Ended → ℕ
figure (answered (done_with listed openings)) = openings
figure (answered (spent_with listed allowance)) = allowance
figure (refused number) = 0

-- lent slices as long as document 01 asks, with so many numbers a document for the answers: three with its first place (M-108), else two
pub record Room (each N k : ℕ) (out work : List ℕ) : Type 0 where
  pub answers : each * min k N ≤ length out
  pub working : 4 * N ≤ length work

-- of a range's entries xs, from a place on, in a library of N documents (sheets): what the greedy search leaves where `out` was lent for the answers, and what
-- probing leaves where `out'` was
pub record Demand3 (N k allowance from : ℕ) (xs out : List ℕ) (greedy : SearchResult Ended) (out' : List ℕ) (probing : SearchResult ℕ) : Type 0 where
  pub full : List Pair
  -- "the full list has exactly k .. sheets .., or all if it has fewer"
  pub exactly_k : length full ≡ min k (tally (λ d. ltb 0 (occurrences d xs)) (below N))
  -- ".. different .."
  pub different : (d : ℕ) → tally (λ p. eqb d p.document) full ≤ 1
  -- ".. of the range .."
  pub of_the_range : Every (λ p. ltb 0 (occurrences p.document xs)) full
  -- "each with its exact count"
  pub exact_count : Every (λ p. eqb p.count (occurrences p.document xs)) full
  -- "larger counts first and equal counts by lower sheet number"
  pub in_order : Sorted ahead full
  -- "and every other sheet of the range comes after those listed"
  pub others_after : (d : ℕ) → 0 < occurrences d xs
      → (0 < tally (λ p. eqb d p.document) full) ⊎ Every (λ p. ahead p (record { document = d; count = occurrences d xs })) full
  -- "Its need is the number of blocks of two or more numbers in the wavelet tree whose count in the range is above the last listed count,
  -- or equal to it with a start not above the last listed sheet"
  pub need_of : List Pair → ℕ
  pub needs : (p : Pair) (ps : List Pair)
      → need_of (p ∷ ps)
      ≡ tally (λ n. ltb (last p ps).count (count_in xs n) || eqb (count_in xs n) (last p ps).count && leb (start n) (last p ps).document) (inner_nodes (height N))
  -- "an empty list needs none"
  pub needs_none : need_of [] ≡ 0
  -- each document is written with its count and its first place (document 02, M-108): "The shortlist answers 'done' with the full list and its need ..
  pub done : need_of full ≤ allowance
      → (greedy.outcome ≡ answered (done_with (length full) (need_of full))) × (greedy.answers ≡ overwrite (with_places from xs full) out)
  -- .. exactly when the allowance covers that need"
  pub exactly_when : is_done greedy.outcome ≡ leb (need_of full) allowance
  -- "the longest front part of the full list whose own need it covers": the first so many pairs
  pub front : ℕ
  pub front_part : front ≤ length full
  pub front_covered : need_of (take front full) ≤ allowance
  pub front_longest : (n : ℕ) → front < n → n ≤ length full → allowance < need_of (take n full)
  -- "and otherwise 'spent' with the allowance and" that front part
  pub spent : allowance < need_of full
      → (greedy.outcome ≡ answered (spent_with front allowance)) × (greedy.answers ≡ overwrite (with_places from xs (take front full)) out)
  -- "Either number is how many moves opened a block"
  pub openings : figure greedy.outcome ≡ tally is_opening (search_moves (height N) xs k allowance)
  -- "The probing shortlist, which has no allowance, answers the full list"
  pub probed : (probing.outcome ≡ answered (length full)) × (probing.answers ≡ overwrite (with_places from xs full) out')
