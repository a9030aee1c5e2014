-- Demand 2, its second sentence, as one record: what every question of an archive answers over the plain list of a library.
use Rattle.std.specs.Prelude.{ℕ, suc, ◌*◌, ◌<◌, min, ◌≡◌, List, ◌||◌, length, get_or, take, leb, ltb, eqb}
use Rattle.bits.specs.Sequences.{occurrences, rank, select}
use Rattle.model.specs.Lists.{any, part}
use Rattle.model.specs.Distinct.{distinct}
use Rattle.model.specs.Outcome.{answered, refuse, and_then}
use Rattle.model.specs.Rows.{height}
use Rattle.model.specs.Format.{Library}
use Rattle.model.specs.Queries.{Range, Bounds, bounds_of, in_range, quantile, pairs_into, first_place, placed_into, access_result, rank_result, select_result, range_result, quantile_result, list_result, conjunction_result}
use Rattle.model.specs.Papers.{listed, intersection}
use Rattle.model.specs.TopK.{found_into, found_of, with_places, top_k, full_list, greedy_result, probing_result}

-- "Counts, places, ranks, listings and the all-words question equal rank, select and quantile as the cited papers define them over the plain list":
-- each result of an archive's bytes is that of the library's entries, refusals too
pub record AnswersOver (bytes : List ℕ) (lib : Library) : Type 0 where
  -- the entry at a place
  pub entries : (p : ℕ) → access_result bytes p ≡ refuse 11 (leb (length lib.entries) p) (answered (get_or lib.entries p 0))
  -- counts: rank
  pub counts : (d p : ℕ)
      → rank_result bytes d p ≡ refuse 11 (leb lib.documents d || ltb (length lib.entries) p) (answered (rank d lib.entries p))
  -- places: select, which is n where there are fewer (M-102; `IsPlace` says what place it is)
  pub places : (d j : ℕ) → select_result bytes d j ≡ refuse 11 (leb lib.documents d || eqb j 0) (answered (select d lib.entries j))
  -- ranks: quantile
  pub ranks : (range : Range) (r : ℕ)
      → quantile_result bytes range r ≡ and_then (in_range lib range) (λ xs. refuse 11 (leb (length xs) r) (answered (quantile r xs)))
  -- listings: document 004's iteration of quantile, with differences of ranks for the counts, and with the first places (M-108)
  pub listings : (range : Range) (answers : List ℕ)
      → list_result bytes range answers
      ≡ placed_into answers
      (and_then (bounds_of lib range)
      (λ r.
      refuse 12 (ltb (length answers) (3 * lib.documents))
      (answered (record { pairs = listed lib.entries r.from r.to; place = first_place r.from (part r.from r.to lib.entries) }))))
  -- a first place is a select: of the entry behind those that stand before the range
  pub first_places : (range : Range) (r : Bounds) (d : ℕ) → bounds_of lib range ≡ answered r → 0 < occurrences d (part r.from r.to lib.entries)
      → first_place r.from (part r.from r.to lib.entries) d ≡ select d lib.entries (suc (rank d lib.entries r.from))
  -- the all-words question: document 002's test of the documents of one term by differences of ranks, of each different term once (M-101)
  pub conjunctions : (numbers : List ℕ) (size : ℕ) (answers : List ℕ) → 0 < length numbers
      → conjunction_result bytes numbers size answers
      ≡ pairs_into answers
      (refuse 10 (eqb size 0 || ltb 8 size)
      (refuse 11 (any (leb (length lib.lengths)) (take size numbers))
      (refuse 12 (ltb (length answers) (2 * lib.documents)) (answered (intersection lib (distinct (take size numbers)))))))
  -- the range of some terms
  pub ranges : (range : Range) → range_result bytes range ≡ bounds_of lib range
  -- both shortlists, with the first places (M-108)
  pub greedy : (range : Range) (k allowance : ℕ) (answers work : List ℕ)
      → greedy_result bytes range k allowance answers work
      ≡ found_into answers work
      (and_then (bounds_of lib range)
      (λ r.
      refuse 12 (ltb (length answers) (3 * min k lib.documents))
      (refuse 13 (ltb (length work) (4 * lib.documents))
      (let xs = part r.from r.to lib.entries in
      answered (found_of (with_places r.from xs) lib.documents (top_k (height lib.documents) lib.documents xs k allowance))))))
  pub probing : (range : Range) (k : ℕ) (answers work : List ℕ)
      → probing_result bytes range k answers work
      ≡ found_into answers work
      (and_then (bounds_of lib range)
      (λ r.
      refuse 12 (ltb (length answers) (3 * min k lib.documents))
      (refuse 13 (ltb (length work) (4 * lib.documents))
      (let xs = part r.from r.to lib.entries in
      let full = full_list lib.documents k xs in
      answered (record { documents = lib.documents; numbers = with_places r.from xs full; answer = length full })))))
