-- The dated shortlist: which documents are in force on a day, the list of those that are shown, its need and what is covered, and the whole
-- result. The moves of its search are not here yet. Document 02, M-109.
use Rattle.std.specs.Prelude.{ℕ, ◌+◌, ◌*◌, min, List, Bool, cond, not, ◌&&◌, length, get_or, take, leb, ltb, eqb}
use Rattle.bits.specs.Sequences.{all, tally, below}
use Rattle.model.specs.Lists.{keep, part}
use Rattle.model.specs.Outcome.{answered, refuse, and_then}
use Rattle.model.specs.Rows.{height}
use Rattle.model.specs.Opening.{opened}
use Rattle.model.specs.Queries.{Range, bounds_of, Pair, listing}
use Rattle.model.specs.TopK.{inner_nodes, ranking, need_of, need, Answer, done, spent, Ended, SearchResult, found_into, found_of, with_places}
use Rattle.model.specs.Search.{occupied}
use Rattle.model.specs.Calendar.{is_day}

-- ---- days in force

-- "the days are listed in pairs from sheet 0 on": the first day of document d, and its last
abbrev pub begins : List ℕ → ℕ → ℕ
begins days d = get_or days (2 * d) 0

abbrev pub ends : List ℕ → ℕ → ℕ
ends days d = get_or days (2 * d + 1) 0

-- "a first and a last day, both included"
abbrev pub in_force : List ℕ → ℕ → ℕ → Bool
in_force days day d = leb (begins days d) day && leb day (ends days d)

-- the two days of a document are days of the calendar, and the first is not after the last
abbrev pub pair_holds : List ℕ → ℕ → Bool
pair_holds days d = (is_day (begins days d) && is_day (ends days d)) && leb (begins days d) (ends days d)

-- "just two days a sheet", the asked day and all listed ones of the calendar, and no first day after the last. Else it is refusal 20
unfoldable pub days_hold : ℕ → List ℕ → ℕ → Bool
days_hold N days day = eqb (length days) (2 * N) && (is_day day && all (pair_holds days) (below N))

-- ---- which documents are shown

-- a test of documents, as one of pairs
abbrev pub listable : (ℕ → Bool) → Pair → Bool
listable shown p = shown p.document

-- ---- the list, its need and what is covered, over any test for the documents that are shown: here those in force

module _ (shown : ℕ → Bool) where
  -- the range's documents "in the usual order", without those that are not shown
  abbrev pub shown_ranking : ℕ → List ℕ → List Pair
  shown_ranking N xs = keep (listable shown) (ranking (listing N xs))

  -- the first k of them, or all if there are fewer
  abbrev pub dated_list : ℕ → ℕ → List ℕ → List Pair
  dated_list N k xs = take k (shown_ranking N xs)

  -- "if fewer than k of the range's sheets are in force, it is all blocks of two or more with a count above 0", else the need "up to the last listed sheet"
  abbrev pub dated_need : ℕ → ℕ → ℕ → List ℕ → ℕ
  dated_need h N k xs =
      cond (ltb (length (shown_ranking N xs)) k) (tally (occupied xs) (inner_nodes h)) (need h xs (dated_list N k xs))

  -- "the sheets in force whose need, each counted up to itself, the allowance covers"
  abbrev pub dated_covered : ℕ → ℕ → List ℕ → ℕ → List Pair
  dated_covered h N xs allowance = keep (λ p. leb (need_of h xs p) allowance) (shown_ranking N xs)

  -- 'done' with the list and its need where the allowance covers that need; "less is 'spent'", with what is covered
  abbrev pub dated_top_k : ℕ → ℕ → List ℕ → ℕ → ℕ → Answer
  dated_top_k h N xs k allowance =
      let cost = dated_need h N k xs in
      cond (leb cost allowance) (done (dated_list N k xs) cost) (spent (dated_covered h N xs allowance) allowance)

-- ---- dated top-k (dated shortlist)

-- refused as the shortlist is, and as 20 "after 11 and before 12"; "numbers a sheet, 12, 13 and the work slice's end are as for the shortlist"
abbrev pub dated_result : List ℕ → Range → ℕ → ℕ → List ℕ → ℕ → List ℕ → List ℕ → SearchResult Ended
dated_result bytes range k allowance days day answers work =
    found_into answers work
    (and_then (opened bytes)
    (λ lib.
    and_then (bounds_of lib range)
    (λ r.
    let N = lib.documents in
    let xs = part r.from r.to lib.entries in
    refuse 20 (not (days_hold N days day))
    (refuse 12 (ltb (length answers) (3 * min k N))
    (refuse 13 (ltb (length work) (4 * N))
    (answered (found_of (with_places r.from xs) N (dated_top_k (in_force days day) (height N) N xs k allowance))))))))
