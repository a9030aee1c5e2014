-- The questions over the plain list, each with its whole result. Document 01, "The questions" and their refusals 10 to 12.
use Rattle.std.specs.Prelude.{ℕ, suc, ◌+◌, ◌*◌, List, [], ◌∷◌, map, Bool, ◌||◌, length, get_or, take, leb, ltb, eqb}
use Rattle.bits.specs.Sequences.{all, below, occurrences, rank, select}
use Rattle.bits.specs.Bits.{sum}
use Rattle.model.specs.Lists.{keep, any, part, sorted, overwrite}
use Rattle.model.specs.Distinct.{distinct}
use Rattle.model.specs.Rate.{rate}
use Rattle.model.specs.Outcome.{Outcome, answered, refused, refuse, and_then}
use Rattle.model.specs.Format.{Library}
use Rattle.model.specs.Opening.{opened}

-- ---- one entry

-- entry at a place
abbrev pub access_result : List ℕ → ℕ → Outcome ℕ
access_result bytes p = and_then (opened bytes) (λ lib. refuse 11 (leb (length lib.entries) p) (answered (get_or lib.entries p 0)))

-- count of a document before a place p; p may be n
abbrev pub rank_result : List ℕ → ℕ → ℕ → Outcome ℕ
rank_result bytes d p =
    and_then (opened bytes)
    (λ lib. refuse 11 (leb lib.documents d || ltb (length lib.entries) p) (answered (rank d lib.entries p)))

-- place of the j-th entry of a document, j from 1. Document 02, M-102: "a missing place is one past the end", which is n
abbrev pub select_result : List ℕ → ℕ → ℕ → Outcome ℕ
select_result bytes d j =
    and_then (opened bytes)
    (λ lib. refuse 11 (leb lib.documents d || eqb j 0) (answered (select d lib.entries j)))

-- ---- ranges

-- a range in either form: entries a up to but without b, or terms f to l, both included
pub data Range : Type 0 where
  of_entries : ℕ → ℕ → Range
  of_terms : ℕ → ℕ → Range

-- the two ends of a range, in entries
pub record Bounds : Type 0 where
  pub from : ℕ
  pub to : ℕ

-- where term t starts: where the one before it ends
abbrev pub term_start : Library → ℕ → ℕ
term_start lib t = sum (take t lib.lengths)

abbrev pub bounds_of : Library → Range → Outcome Bounds
bounds_of lib (of_entries a b) = refuse 11 (ltb b a || ltb (length lib.entries) b) (answered (record { from = a; to = b }))
bounds_of lib (of_terms f l) =
    refuse 11 (ltb l f || leb (length lib.lengths) f || leb (length lib.lengths) l)
    (answered (record { from = term_start lib f; to = term_start lib (suc l) }))

-- the entries of a range
abbrev pub in_range : Library → Range → Outcome (List ℕ)
in_range lib range = and_then (bounds_of lib range) (λ r. answered (part r.from r.to lib.entries))

-- the range of terms f to l, or of entries a to b, as entries
abbrev pub range_result : List ℕ → Range → Outcome Bounds
range_result bytes range = and_then (opened bytes) (λ lib. bounds_of lib range)

-- ---- quantile: the document of rank r in a range

-- the element at r if the range were sorted
abbrev pub quantile : ℕ → List ℕ → ℕ
quantile r xs = get_or (sorted xs) r 0

abbrev pub quantile_result : List ℕ → Range → ℕ → Outcome ℕ
quantile_result bytes range r =
    and_then (opened bytes) (λ lib. and_then (in_range lib range) (λ xs. refuse 11 (leb (length xs) r) (answered (quantile r xs))))

-- ---- answers as pairs

-- a document with a count
pub record Pair : Type 0 where
  pub document : ℕ
  pub count : ℕ

abbrev pub pair : ℕ → ℕ → Pair
pair d c = record { document = d; count = c }

-- pairs as they go into a slice
abbrev pub flat : List Pair → List ℕ
flat [] = []
flat (p ∷ ps) = p.document ∷ p.count ∷ flat ps

-- pair i of a slice, and its first n pairs
abbrev pub pair_at : List ℕ → ℕ → Pair
pair_at out i = pair (get_or out (2 * i) 0) (get_or out (2 * i + 1) 0)

abbrev pub pairs_in : List ℕ → ℕ → List Pair
pairs_in out n = map (pair_at out) (below n)

-- how many pairs, with a place or without (M-108), or how many documents alone (M-104), and the final content of the answer slice
pub record PairsResult : Type 0 where
  pub outcome : Outcome ℕ
  pub answers : List ℕ

abbrev pub pairs_into : List ℕ → Outcome (List Pair) → PairsResult
pairs_into answers (answered ps) = record { outcome = answered (length ps); answers = overwrite (flat ps) answers }
pairs_into answers (refused number) = record { outcome = refused number; answers = answers }

-- ---- answers with places: a document's count in a range and where it first stands there (document 02, M-108)

-- "place of its first entry in the range, counted from entry 0", where the range xs starts at place `from`
abbrev pub first_place : ℕ → List ℕ → ℕ → ℕ
first_place from xs d = from + select d xs 1

-- pairs as they go into a slice with the place of each document: three numbers a document
abbrev pub flat_placed : (ℕ → ℕ) → List Pair → List ℕ
flat_placed place [] = []
flat_placed place (p ∷ ps) = p.document ∷ p.count ∷ place p.document ∷ flat_placed place ps

-- pairs, and the place of each document
pub record Placed : Type 0 where
  pub pairs : List Pair
  pub place : ℕ → ℕ

abbrev pub placed_into : List ℕ → Outcome Placed → PairsResult
placed_into answers (answered ps) = record { outcome = answered (length ps.pairs); answers = overwrite (flat_placed ps.place ps.pairs) answers }
placed_into answers (refused number) = record { outcome = refused number; answers = answers }

-- ---- list: every document in the range once, ascending, with its count and its first place

-- a document's count in a range: the entries there that equal it
abbrev pub pair_of : List ℕ → ℕ → Pair
pair_of xs d = record { document = d; count = occurrences d xs }

-- the range's documents are those whose count is above 0
abbrev pub present : Pair → Bool
present p = ltb 0 p.count

abbrev pub listing : ℕ → List ℕ → List Pair
listing N xs = keep present (map (pair_of xs) (below N))

-- the listing of the entries xs, which start at place `from`, with the first places
abbrev pub placed_listing : ℕ → ℕ → List ℕ → Placed
placed_listing N from xs = record { pairs = listing N xs; place = first_place from xs }

abbrev pub list_result : List ℕ → Range → List ℕ → PairsResult
list_result bytes range answers =
    placed_into answers
    (and_then (opened bytes)
    (λ lib.
    and_then (bounds_of lib range)
    (λ r. refuse 12 (ltb (length answers) (3 * lib.documents)) (answered (placed_listing lib.documents r.from (part r.from r.to lib.entries))))))

-- ---- conjunction: the documents with an entry under each of the terms, ascending, with the sum of their counts

-- the entries under a term
abbrev pub under : Library → ℕ → List ℕ
under lib t = part (term_start lib t) (term_start lib (suc t)) lib.entries

-- one count for each of the terms
abbrev pub counts_under : Library → List ℕ → ℕ → List ℕ
counts_under lib terms d = map (λ t. occurrences d (under lib t)) terms

abbrev pub conjunction : Library → List ℕ → List Pair
conjunction lib terms =
    map (λ d. record { document = d; count = sum (counts_under lib terms d) })
    (keep (λ d. all (ltb 0) (counts_under lib terms d)) (below lib.documents))

-- the question holds so many of the given numbers, one to eight; a repeated term counts once (document 02, M-101), after the refusals
abbrev pub conjunction_result : List ℕ → List ℕ → ℕ → List ℕ → PairsResult
conjunction_result bytes numbers size answers =
    let terms = take size numbers in
    pairs_into answers
    (and_then (opened bytes)
    (λ lib.
    refuse 10 (eqb size 0 || ltb 8 size)
    (refuse 11 (any (leb (length lib.lengths)) terms)
    (refuse 12 (ltb (length answers) (2 * lib.documents)) (answered (conjunction lib (distinct terms)))))))

-- ---- per mille: the rate

-- count * 1,000 / size of range, to the nearest, an exact half to the even one (document 02, M-105)
abbrev pub per_mille_result : ℕ → ℕ → Outcome ℕ
per_mille_result count size = refuse 11 (eqb size 0 || ltb size count) (answered (rate count size))
