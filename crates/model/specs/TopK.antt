-- The full list, its need and the covered front part; the results of both searches. Document 01, "Bit rows" and the shortlists.
use Rattle.std.specs.Prelude.{ℕ, zero, suc, ◌-◌, ◌*◌, ◌/◌, ◌^◌, min, List, [], ◌∷◌, map, Bool, cond, ◌&&◌, ◌||◌, length, take, replicate, leb, ltb, eqb}
use Rattle.bits.specs.Sequences.{tally, below}
use Rattle.bits.specs.Bits.{concat}
use Rattle.model.specs.Lists.{part, overwrite, insert_by, sort_by}
use Rattle.model.specs.Outcome.{Outcome, answered, refused, refuse, and_then}
use Rattle.model.specs.Rows.{height}
use Rattle.model.specs.Opening.{opened}
use Rattle.model.specs.Queries.{Range, bounds_of, Pair, first_place, flat_placed, listing}

-- ---- nodes (blocks)

-- node l q: the 2 ^ l numbers v with v / 2 ^ l equal to q. Its depth is h - l; a node of height 0 is one number
pub data Node : Type 0 where
  node : ℕ → ℕ → Node

-- the lowest of its numbers
abbrev pub start : Node → ℕ
start (node l q) = q * 2 ^ l

-- the number of entries in it
abbrev pub count_in : List ℕ → Node → ℕ
count_in xs (node l q) = tally (λ v. eqb (v / 2 ^ l) q) xs

-- the nodes of two or more numbers: of depth j below h there are 2 ^ j
abbrev pub inner_nodes : ℕ → List Node
inner_nodes h = concat (map (λ j. map (node (h - j)) (below (2 ^ j))) (below h))

-- ---- the full list: by larger count and then lower number

abbrev pub ahead : Pair → Pair → Bool
ahead p q = ltb q.count p.count || eqb q.count p.count && ltb p.document q.document

-- p stands ahead of q, or is level with it
abbrev pub ahead_pair : Pair → Pair → Bool
ahead_pair p q = ltb q.count p.count || eqb q.count p.count && leb p.document q.document

abbrev pub insert_pair : Pair → List Pair → List Pair
insert_pair = insert_by ahead

abbrev pub ranking : List Pair → List Pair
ranking = sort_by ahead

-- the first k of the range's documents, or all if there are fewer
abbrev pub full_list : ℕ → ℕ → List ℕ → List Pair
full_list N k xs = take k (ranking (listing N xs))

-- ---- the need

-- the node's count is above that of the pair, or equal to it with a start not above the pair's document
abbrev pub needed : List ℕ → Pair → Node → Bool
needed xs p n =
    ltb p.count (count_in xs n) || eqb (count_in xs n) p.count && leb (start n) p.document

-- the number of such nodes of two or more numbers
abbrev pub need_of : ℕ → List ℕ → Pair → ℕ
need_of h xs p = tally (needed xs p) (inner_nodes h)

abbrev pub last : Pair → List Pair → Pair
last p [] = p
last p (q ∷ qs) = last q qs

-- the need of a front part, by its last pair; without pairs it is 0
abbrev pub need : ℕ → List ℕ → List Pair → ℕ
need h xs [] = 0
need h xs (p ∷ ps) = need_of h xs (last p ps)

-- the longest front part, of at most m pairs, whose need the allowance covers
abbrev pub covered : ℕ → List ℕ → ℕ → List Pair → ℕ → List Pair
covered h xs allowance ps zero = []
covered h xs allowance ps (suc m) =
    let shorter = covered h xs allowance ps m in
    cond (leb (need h xs (take (suc m) ps)) allowance) (take (suc m) ps) shorter

-- ---- top-k (shortlist)

-- 'done' with the openings needed, or 'spent' with the allowance; each with the documents listed
pub data Answer : Type 0 where
  done : List Pair → ℕ → Answer
  spent : List Pair → ℕ → Answer

abbrev pub top_k : ℕ → ℕ → List ℕ → ℕ → ℕ → Answer
top_k h N xs k allowance =
    let full = full_list N k xs in
    let cost = need h xs full in
    cond (leb cost allowance) (done full cost) (spent (covered h xs allowance full (length full)) allowance)

-- ---- the same over any need

-- the need of a front part, by its last pair; without pairs it is 0
abbrev pub need_by : (Pair → ℕ) → List Pair → ℕ
need_by f [] = 0
need_by f (p ∷ ps) = f (last p ps)

module _ (need : List Pair → ℕ) (allowance : ℕ) (full : List Pair) where
  -- the longest front part, of at most m pairs, whose need the allowance covers
  abbrev pub covered_by : ℕ → List Pair
  covered_by zero = []
  covered_by (suc m) = let shorter = covered_by m in cond (leb (need (take (suc m) full)) allowance) (take (suc m) full) shorter

  -- the whole list if the allowance covers its need, else the longest front part that it covers
  abbrev pub answer_by : Answer
  answer_by = cond (leb (need full) allowance) (done full (need full)) (spent (covered_by (length full)) allowance)

-- ---- results

-- how a search ended: so many pairs listed, with the openings needed or with the allowance
pub data Ended : Type 0 where
  done_with : ℕ → ℕ → Ended
  spent_with : ℕ → ℕ → Ended

abbrev pub ended_of : Answer → Ended
ended_of (done ps openings) = done_with (length ps) openings
ended_of (spent ps allowance) = spent_with (length ps) allowance

abbrev pub pairs_of : Answer → List Pair
pairs_of (done ps openings) = ps
pairs_of (spent ps allowance) = ps

-- what a search of a library with N documents finds: the numbers that go into the answer slice, and what it answers
pub record Found (A : Type 0) : Type 0 where
  pub documents : ℕ
  pub numbers : List ℕ
  pub answer : A

-- the answer, and the final content of the answer slice and of the work slice
pub record SearchResult (A : Type 0) : Type 0 where
  pub outcome : Outcome A
  pub answers : List ℕ
  pub work : List ℕ

-- the numbers go into the answer slice; the first 4 * N numbers of the work slice are 0, and the rest of both is untouched
abbrev pub found_into : {A : Type 0} → List ℕ → List ℕ → Outcome (Found A) → SearchResult A
found_into answers work (answered f) = record {
  outcome = answered f.answer;
  answers = overwrite f.numbers answers;
  work = overwrite (replicate (4 * f.documents) 0) work;
}
found_into answers work (refused number) = record { outcome = refused number; answers = answers; work = work }

-- both searches refuse alike, and then search the entries of the range, which start at a place. 12 asks three numbers a document (document 02, M-108)
abbrev pub search_result : {A : Type 0} → List ℕ → Range → ℕ → List ℕ → List ℕ → (ℕ → ℕ → List ℕ → Found A) → SearchResult A
search_result bytes range k answers work search =
    found_into answers work
    (and_then (opened bytes)
    (λ lib.
    and_then (bounds_of lib range)
    (λ r.
    refuse 12 (ltb (length answers) (3 * min k lib.documents))
    (refuse 13 (ltb (length work) (4 * lib.documents)) (answered (search lib.documents r.from (part r.from r.to lib.entries)))))))

-- what is found in a library with N documents, by the answer and by how its pairs go into a slice
abbrev pub found_of : (List Pair → List ℕ) → ℕ → Answer → Found Ended
found_of write N answer = record { documents = N; numbers = write (pairs_of answer); answer = ended_of answer }

-- a range's pairs go into a slice with the first places (document 02, M-108)
abbrev pub with_places : ℕ → List ℕ → List Pair → List ℕ
with_places from xs = flat_placed (first_place from xs)

-- greedy top-k (shortlist)
abbrev pub greedy_result : List ℕ → Range → ℕ → ℕ → List ℕ → List ℕ → SearchResult Ended
greedy_result bytes range k allowance answers work =
    search_result bytes range k answers work
    (λ N from xs. found_of (with_places from xs) N (top_k (height N) N xs k allowance))

-- probing top-k (probing shortlist): the full list, no allowance; it answers how many pairs
abbrev pub probing_result : List ℕ → Range → ℕ → List ℕ → List ℕ → SearchResult ℕ
probing_result bytes range k answers work =
    search_result bytes range k answers work
    (λ N from xs. let full = full_list N k xs in record { documents = N; numbers = with_places from xs full; answer = length full })
