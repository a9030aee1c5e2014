-- Every report fits the output of 65,536 bytes that the program lends. A line with a count of one digit has at most 13 bytes; that is not so for
-- every line, but the counts add up to no more than the entries of the range, so few of them have more digits.
use Prim.Native.Nat.{ℕ, zero, suc, ◌+◌, ◌-◌, ◌^◌, ◌≤◌, ◌<◌, min}
use native.Mathlib.Omega.{arith}
use native.Mathlib.Nat.{zero-add, add-zero, two-pow-succ}
use mathlib.Core.Path.{◌≡◌, refl, ◌∙◌}
use mathlib.Core.Logic.{◌⊎◌, inl, inr}
use mathlib.Core.List.{List, [], ◌∷◌, map}
use mathlib.Core.Bool.{Bool, true, false, not, cond, ◌&&◌, ◌||◌}
use lib.ListN.{length, drop, length-append, length-map, length-take, length-drop}
use lib.Pow.{pow_mono}
use lib.Seq.{take_all}
use lib.Dec.{leb, ltb, eqb}
use borrow.Author.Tests.{leb-false, lt-ltb}
use Rattle.bits.specs.Sequences.{all, up_from, below}
use Rattle.bits.specs.Bits.{concat, samples_right, unused_clear, number_at}
use Rattle.bits.proofs.Tests.{look, and_both}
use Rattle.bits.proofs.Sequences.{select_le}
use Rattle.bits.proofs.Tally.{tally_le, tally_le_length, tally-map, length-up_from}
use Rattle.model.specs.Lists.{any, part, overwrite, Every}
use Rattle.model.specs.Outcome.{Outcome, answered, refused, refuse, and_then}
use Rattle.model.specs.Rows.{height}
use Rattle.model.specs.Format.{Library, Sizes, within_limits, row_count, archive_length}
use Rattle.model.specs.Opening.{sizes_at, samples_at, row_at, entries_at, contents, pairs_hold, table_holds, opening}
use Rattle.model.specs.Queries.{Pair, Bounds, term_start, pair_of, present, listing, first_place, flat_placed}
use Rattle.model.specs.TopK.{node, inner_nodes, needed, last, ranking, full_list, need, covered, done, spent, top_k, Ended, Found, found_of, with_places}
use Rattle.model.proofs.Height.{height_le_12}
use Rattle.model.proofs.Lists.{tally-keep}
use Rattle.model.proofs.Sums.{sum-take_le}
use Rattle.model.proofs.Sorting.{every_cons, every_take}
use Rattle.model.proofs.Ranking.{ranking_same}
use Rattle.archive.specs.Layout.{layout_of, Opened}
use Rattle.archive.proofs.Opened.{limits, documents-are, entries-size, lengths_total}
use Rattle.model.proofs.Listed.{length-full}
use Rattle.top_k.proofs.Demand3.FullList.{longest_covered}
use Rattle.report.specs.Report.{lines_of, last_line, done_word, spent_word, refused_word, answer_to, shortlist_of, text_of, report, shown, written}
use Rattle.report.proofs.Entries.{entries_of, entries-take, entries-full}
use Rattle.report.proofs.Lengths.{short, length_lines, length_last}

-- ---- the documents listed

every_up_from : (p : ℕ → Bool) (s n : ℕ) → ((d : ℕ) → d < s + n → p d ≡ true) → Every p (up_from s n)
every_up_from p s zero h = refl
every_up_from p s (suc n) h = every_cons p s (up_from (suc s) n) (h s (omega arith)) (every_up_from p (suc s) n (λ d l. h d (omega arith)))

full-short : (N k : ℕ) (xs : List ℕ) → N ≤ 4096 → Every short (full_list N k xs)
full-short N k xs documents = every_take short k (ranking (listing N xs)) (ranking_same (listing N xs) long ∙ listed)
  where
    long : Pair → Bool
    long p = not (short p)

    pairs : List Pair
    pairs = map (pair_of xs) (below N)

    listed : Every short (listing N xs)
    listed =
        omega (
          arith,
          tally-keep long present pairs,
          tally_le (λ p. present p && long p) long (λ p e. (and_both (present p) (long p) e).1) pairs,
          tally-map long (pair_of xs) (below N),
          every_up_from (λ d. short (pair_of xs d)) 0 N (λ d l. lt-ltb d 10000 (omega arith)),
        )

-- ---- the openings

-- there are 2 ^ h - 1 nodes of two or more numbers
length_inner : (h s m : ℕ) → length (concat (map (λ j. map (node (h - j)) (below (2 ^ j))) (up_from s m))) + 2 ^ s ≡ 2 ^ (s + m)
length_inner h s zero = rw (add-zero s) (omega arith)
length_inner h s (suc m) =
    let here = map (node (h - s)) (below (2 ^ s)) in
    let rest = concat (map (λ j. map (node (h - j)) (below (2 ^ j))) (up_from (suc s) m)) in
    let next : length rest + 2 ^ suc s ≡ 2 ^ (suc s + m) = length_inner h (suc s) m in
    let same : s + suc m ≡ suc s + m = omega arith in
    rw same
    (omega (arith, length-append here rest, length-map (below (2 ^ s)) (node (h - s)), length-up_from 0 (2 ^ s), next, two-pow-succ s))

need_lt : (h : ℕ) (xs : List ℕ) (ps : List Pair) → need h xs ps < 2 ^ h
need_lt h xs ps = omega (arith, rw (zero-add h) at (length_inner h 0 h), go ps)
  where
    go : (qs : List Pair) → need h xs qs ≤ length (inner_nodes h)
    go [] = omega arith
    go (q ∷ qs) = tally_le_length (needed xs (last q qs)) (inner_nodes h)

-- ---- the text of an answer

-- at most 4,096 lines of 13 bytes, 6,553 more for counts of two digits and more, and a last line of 11
length-answer : (N : ℕ) (xs : List ℕ) (k allowance : ℕ) (place : ℕ → ℕ) → N ≤ 4096 → length xs ≤ 65535 → ((d : ℕ) → place d < 100000)
    → length (text_of (answered (found_of (flat_placed place) N (top_k (height N) N xs k allowance)))) ≤ 59812
length-answer N xs k allowance place documents entries low = go (look (leb cost allowance))
  where
    h : ℕ
    h = height N

    full : List Pair
    full = full_list N k xs

    cost : ℕ
    cost = need h xs full

    front : List Pair
    front = covered h xs allowance full (length full)

    cheap : cost < 10000
    cheap = let p : 2 ^ h ≤ 2 ^ 12 = pow_mono (height_le_12 N documents) in omega (arith, need_lt h xs full)

    go : (leb cost allowance ≡ true) ⊎ (leb cost allowance ≡ false)
        → length (text_of (answered (found_of (flat_placed place) N (cond (leb cost allowance) (done full cost) (spent front allowance))))) ≤ 59812
    go (inl e) =
        rw e
        (omega (
          arith,
          length-append (lines_of (flat_placed place full)) (last_line done_word cost),
          length_lines place low full (full-short N k xs documents),
          length-full N k xs,
          entries-full xs N k,
          length_last done_word cost 3 cheap,
        ))
    go (inr e) =
        let cut = longest_covered h xs allowance full (length full) in
        let shorts : Every short front = rw cut.is (every_take short cut.size full (full-short N k xs documents)) in
        let few : length front ≤ length full = rw cut.is (omega (arith, length-take cut.size full)) in
        let sparse : entries_of front ≤ entries_of full = rw cut.is (entries-take cut.size full) in
        rw e
        (omega (
          arith,
          length-append (lines_of (flat_placed place front)) (last_line spent_word allowance),
          length_lines place low front shorts,
          length-full N k xs,
          entries-full xs N k,
          length_last spent_word allowance 3 (omega (arith, leb-false cost allowance e, cheap)),
        ))

-- ---- refusals

-- the number of a refusal has at most two digits
abbrev Few : {A : Type 0} → Outcome A → Type 0
Few (answered x) = Unit {0}
Few (refused number) = number < 100

-- refused under the number of the first condition that applies, counted from the given one
abbrev first_of : ℕ → List Bool → Sizes → Outcome Sizes
first_of number [] s = answered s
first_of number (c ∷ cs) s = refuse number c (first_of (suc number) cs s)

first_few : (number : ℕ) (cs : List Bool) (s : Sizes) → number + length cs ≤ 100 → Few (first_of number cs s)
first_few number [] s l = tt
first_few number (true ∷ cs) s l = omega arith
first_few number (false ∷ cs) s l = first_few (suc number) cs s (omega arith)

opening_few : (bytes : List ℕ) → Few (opening bytes)
unfolding opening
opening_few bytes =
    let s = sizes_at bytes in
    first_few 1
    (ltb (length bytes) 40
    ∷ not (eqb (number_at bytes 0) 1)
    ∷ not (within_limits s)
    ∷ not (pairs_hold bytes s)
    ∷ not (eqb (length bytes) (archive_length s))
    ∷ not (table_holds bytes s.entries 0 (below s.terms))
    ∷ not (all (λ j. samples_right s.entries (samples_at bytes s j) (row_at bytes s j)) (below (row_count s)))
    ∷ not (all (λ j. unused_clear s.entries (row_at bytes s j)) (below (row_count s)))
    ∷ any (leb s.documents) (entries_at bytes s)
    ∷ [])
    s (omega arith)

-- ---- the report

length_refused : (number : ℕ) → number < 100 → length (text_of (refused number)) ≤ 59812
length_refused number l = omega (arith, length_last refused_word number 1 l)

length_text : (bytes : List ℕ) (f l k allowance : ℕ) → length (text_of (shortlist_of bytes f l k allowance)) ≤ 59812
length_text bytes f l k allowance = from (opening bytes) refl (opening_few bytes)
  where
    lib : Library
    lib = contents bytes

    N : ℕ
    N = lib.documents

    start : ℕ
    start = term_start lib f

    range : List ℕ
    range = part start (term_start lib (suc l)) lib.entries

    bounds : Outcome Bounds
    bounds = answered (record { from = start; to = term_start lib (suc l) })

    answer : Bounds → Outcome (Found Ended)
    answer r =
        let xs = part r.from r.to lib.entries in
        answered (found_of (with_places r.from xs) N (top_k (height N) N xs k allowance))

    inside : N ≤ 4096 → start + length range ≤ 65535 → (b : Bool) → length (text_of (and_then (refuse 11 b bounds) answer)) ≤ 59812
    inside m n true = length_refused 11 (omega arith)
    inside m n false =
        length-answer N range k allowance (first_place start range) m (omega arith) (λ d. omega (arith, select_le d range 1))

    from : (o : Outcome Sizes) → opening bytes ≡ o → Few o → length (text_of (shortlist_of bytes f l k allowance)) ≤ 59812
    from (answered s) e few =
        let o : Opened bytes (layout_of s) = record { accepted = e; shape = refl } in
        let m : N ≤ 4096 = omega (arith, documents-are bytes (layout_of s) o, (limits bytes (layout_of s) o).documents) in
        let n : start + length range ≤ 65535 =
        omega (
          arith,
          length-take (term_start lib (suc l) - start) (drop start lib.entries),
          length-drop start lib.entries,
          sum-take_le lib.lengths f,
          lengths_total bytes (layout_of s) o,
          entries-size bytes (layout_of s) o,
          (limits bytes (layout_of s) o).entries,
        )
        in
        rw e (inside m n (ltb l f || leb (length lib.lengths) f || leb (length lib.lengths) l))
    from (refused number) e few = rw e (length_refused number few)

-- for every input
pub length-report : (input : List ℕ) → length (report input) ≤ 59812
length-report input = go (ltb 65536 (length input)) (ltb (length input) 56)
  where
    go : (b c : Bool) → length (cond b (last_line refused_word 0) (cond c (last_line refused_word 1) (text_of (answer_to input)))) ≤ 59812
    go true c = length_refused 0 (omega arith)
    go false true = length_refused 1 (omega arith)
    go false false = length_text (drop 16 input) (number_at input 0) (number_at input 4) (number_at input 8) (number_at input 12)

-- so the program's output has room for the whole of it
pub shown-whole : (input output : List ℕ) → 65536 ≤ length output → shown (report input) output ≡ written (report input) output
shown-whole input output room =
    let text = report input in
    let fits = length-report input in
    let size : min (length text) (length output) ≡ length text = omega arith in
    let whole = take_all (length output) (overwrite text output) (omega (arith, length-append text (drop (length text) output), length-drop (length text) output)) in
    λ i. record { size = size i; output = whole i }
