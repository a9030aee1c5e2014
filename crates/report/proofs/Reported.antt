-- What the code reports of a search is the text of the shortlist.
use Prim.Native.Nat.{ℕ, ◌*◌, ◌≤◌, min}
use native.Mathlib.Omega.{arith}
use mathlib.Core.Path.{◌≡◌, refl, sym, ap, ◌∙◌, subst}
use mathlib.Core.List.{List, ◌++◌}
use lib.ListN.{length, take, drop}
use lib.Seq.{take-append_seam}
use lib.Dec.{ltb}
use borrow.Author.Tests.{le-ltb}
use Rattle.model.specs.Lists.{part, overwrite}
use Rattle.model.specs.Outcome.{Outcome, answered, refused, refuse, and_then}
use Rattle.model.specs.Rows.{height}
use Rattle.model.specs.Format.{Library, Sizes}
use Rattle.model.specs.Opening.{opening, contents}
use Rattle.model.specs.Queries.{Bounds, of_terms, bounds_of, first_place, flat_placed}
use Rattle.model.specs.TopK.{Answer, done, spent, top_k, Ended, pairs_of, Found, found_of, with_places, SearchResult, found_into, greedy_result}
use Rattle.model.proofs.Format.WriteBack.{accepted}
use Rattle.model.proofs.FirstPlaces.{length-flat_placed}
use Rattle.model.proofs.Listed.{length-top_k}
use Rattle.report.specs.Report.{lines_of, end_line, shortlist_of, text_of}
use Rattle.report.specs.Types.{listed_by, text_in, Listed}

-- ---- a search and the shortlist

-- three numbers for each document listed, of which there are at most 4,096
abbrev InThrees : Outcome (Found Ended) → Type 0
InThrees (answered found) = (length found.numbers ≡ 3 * listed_by found.answer) × (listed_by found.answer ≤ 4096)
InThrees (refused number) = Unit {0}

-- what a search leaves where both slices have room is what it finds
record Agree (answers work : List ℕ) (s : SearchResult Ended) (x : Outcome (Found Ended)) : Type 0 where
  left : s ≡ found_into answers work x
  threes : InThrees x

-- of a search that was answered: so many documents as it has pairs
found_in_threes : (place : ℕ → ℕ) (N : ℕ) (a : Answer) → length (pairs_of a) ≤ 4096 → InThrees (answered (found_of (flat_placed place) N a))
found_in_threes place N (done ps n) l = (length-flat_placed place ps, l)
found_in_threes place N (spent ps n) l = (length-flat_placed place ps, l)

-- the numbers stand in the front of the answer slice
text_of_lem : (x : Outcome (Found Ended)) (answers work : List ℕ) → InThrees x
    → text_in (found_into answers work x).outcome (found_into answers work x).answers ≡ text_of x
text_of_lem (answered found) answers work threes =
    let numbers = found.numbers in
    ap (λ (ns : List ℕ). lines_of ns ++ end_line found.answer)
    (ap (λ (n : ℕ). take n (overwrite numbers answers)) (sym threes.0) ∙ take-append_seam numbers (drop (length numbers) answers))
text_of_lem (refused number) answers work threes = refl

listed_of : (x : Outcome (Found Ended)) (answers work : List ℕ) → InThrees x → Listed (found_into answers work x).outcome
listed_of (answered found) answers work threes = threes.1
listed_of (refused number) answers work threes = tt

module _ (bytes : List ℕ) (f l k allowance : ℕ) (answers work : List ℕ) (room : 12288 ≤ length answers) (more : 16384 ≤ length work) where
  -- what is found in a range, without and with the refusals of the lent slices
  abbrev found : Library → Bounds → Outcome (Found Ended)
  found lib r =
      let xs = part r.from r.to lib.entries in
      answered (found_of (with_places r.from xs) lib.documents (top_k (height lib.documents) lib.documents xs k allowance))

  abbrev tried : Library → Bounds → Outcome (Found Ended)
  tried lib r = refuse 12 (ltb (length answers) (3 * min k lib.documents)) (refuse 13 (ltb (length work) (4 * lib.documents)) (found lib r))

  agree : Agree answers work (greedy_result bytes (of_terms f l) k allowance answers work) (shortlist_of bytes f l k allowance)
  agree = from (opening bytes) refl
    where
      inside : (lib : Library) → lib.documents ≤ 4096 → (o : Outcome Bounds)
          → Agree answers work (found_into answers work (and_then o (tried lib))) (and_then o (found lib))
      inside lib m (answered r) =
          let N = lib.documents in
          let xs = part r.from r.to lib.entries in
          rw (le-ltb (length answers) (3 * min k N) (omega arith), le-ltb (length work) (4 * N) (omega arith))
          (record {
            left = refl;
            threes = found_in_threes (first_place r.from xs) N (top_k (height N) N xs k allowance) (omega (arith, length-top_k (height N) N xs k allowance));
          })
      inside lib m (refused number) = record { left = refl; threes = tt }

      from : (o : Outcome Sizes) → opening bytes ≡ o
          → Agree answers work (greedy_result bytes (of_terms f l) k allowance answers work) (shortlist_of bytes f l k allowance)
      from (answered s) e =
          rw e (inside (contents bytes) (accepted bytes s e).0.limits.documents (bounds_of (contents bytes) (of_terms f l)))
      from (refused number) e = rw e (record { left = refl; threes = tt })

  module _ (o : Outcome Ended) (answers' work' : List ℕ)
      (e : record { outcome = o; answers = answers'; work = work' } ≡ greedy_result bytes (of_terms f l) k allowance answers work) where
    pub reported : text_in o answers' ≡ text_of (shortlist_of bytes f l k allowance)
    reported =
        let same = e ∙ agree.left in
        (λ i. text_in (same i).outcome (same i).answers) ∙ text_of_lem (shortlist_of bytes f l k allowance) answers work agree.threes

    pub reported_few : Listed o
    reported_few =
        subst Listed (sym (ap (λ (r : SearchResult Ended). r.outcome) (e ∙ agree.left)))
        (listed_of (shortlist_of bytes f l k allowance) answers work agree.threes)
