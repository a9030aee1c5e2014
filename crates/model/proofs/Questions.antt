-- Demand 2, its second sentence: what every question of an archive answers over the plain list that the archive holds.
use Prim.Native.Nat.{ℕ, zero, suc, ◌*◌, ◌≤◌, ◌<◌, min}
use native.Mathlib.Omega.{arith}
use mathlib.Core.Path.{◌≡◌, refl, ap, ◌∙◌, subst}
use mathlib.Core.List.{List, [], ◌∷◌}
use mathlib.Core.Bool.{Bool, not, ◌||◌}
use lib.ListN.{length, get_or, take}
use lib.Dec.{leb, ltb, eqb}
use borrow.Author.Tests.{ltb-false}
use Rattle.bits.specs.Sequences.{rank, select}
use Rattle.bits.proofs.Tests.{or_neither}
use Rattle.model.specs.Lists.{keep, any, part}
use Rattle.model.specs.Distinct.{distinct}
use Rattle.model.specs.Outcome.{Outcome, answered, refused, refuse, and_then}
use Rattle.model.specs.Rows.{height}
use Rattle.model.specs.Format.{Library, Sizes, archive_of}
use Rattle.model.specs.Opening.{contents, opening, opened}
use Rattle.model.specs.Queries as queries
use Rattle.model.specs.Queries.{Range, of_entries, of_terms, Bounds, bounds_of, in_range, term_start, quantile, Pair, pairs_into, first_place, placed_listing, placed_into}
use Rattle.model.specs.Papers.{listed, intersection}
use Rattle.model.specs.Demand2.{AnswersOver}
use Rattle.model.specs.TopK.{Found, found_into, found_of, with_places, search_result, top_k, full_list}
use Rattle.model.proofs.Format.Valid.{Valid, valid_archive, refuse_answered}
use Rattle.model.proofs.Format.WriteBack as read
use Rattle.model.proofs.Format.Theorem.{read-written}
use Rattle.model.proofs.Sums.{sum-take_mono, sum-take_le}
use Rattle.model.proofs.Papers.{listing-listed, conjunction-intersection}
use Rattle.model.proofs.FirstPlaces.{first-place-select}

-- ---- a library that may be written

module _ (lib : Library) (v : Valid lib) where
  -- a range that is not refused is inside the entries
  pub range_inside : (range : Range) (r : Bounds) → bounds_of lib range ≡ answered r → (r.from ≤ r.to) × (r.to ≤ length lib.entries)
  range_inside (of_entries a b) r e =
      let ends : Bounds = record { from = a; to = b } in
      let (inside, is) = refuse_answered 11 (ltb b a || ltb (length lib.entries) b) (answered ends) r e in
      let (order, fits) = or_neither (ltb b a) (ltb (length lib.entries) b) inside in
      let same : ends ≡ r = cc in
      subst (λ (z : Bounds). (z.from ≤ z.to) × (z.to ≤ length lib.entries)) same (ltb-false b a order, ltb-false (length lib.entries) b fits)
  range_inside (of_terms f l) r e =
      let ends : Bounds = record { from = term_start lib f; to = term_start lib (suc l) } in
      let (inside, is) = refuse_answered 11 (ltb l f || leb (length lib.lengths) f || leb (length lib.lengths) l) (answered ends) r e in
      let (some, _) = or_neither (ltb l f || leb (length lib.lengths) f) (leb (length lib.lengths) l) inside in
      let (order, _) = or_neither (ltb l f) (leb (length lib.lengths) f) some in
      let le = ltb-false l f order in
      let same : ends ≡ r = cc in
      subst (λ (z : Bounds). (z.from ≤ z.to) × (z.to ≤ length lib.entries)) same
      (sum-take_mono lib.lengths f (suc l) (omega arith), omega (arith, sum-take_le lib.lengths (suc l), v.total))

  -- the listing of a range
  listing_over : (range : Range) (c : Bool) (answers : List ℕ)
      → placed_into answers
      (and_then (bounds_of lib range) (λ r. refuse 12 c (answered (placed_listing lib.documents r.from (part r.from r.to lib.entries)))))
      ≡ placed_into answers
      (and_then (bounds_of lib range)
      (λ r. refuse 12 c (answered (record { pairs = listed lib.entries r.from r.to; place = first_place r.from (part r.from r.to lib.entries) }))))
  listing_over range c answers = go (bounds_of lib range) refl
    where
      go : (o : Outcome Bounds) → bounds_of lib range ≡ o
          → placed_into answers (and_then o (λ r. refuse 12 c (answered (placed_listing lib.documents r.from (part r.from r.to lib.entries)))))
          ≡ placed_into answers
          (and_then o
          (λ r. refuse 12 c (answered (record { pairs = listed lib.entries r.from r.to; place = first_place r.from (part r.from r.to lib.entries) }))))
      go (answered r) e =
          let (order, inside) = range_inside range r e in
          ap (λ (ps : List Pair). placed_into answers (refuse 12 c (answered (record { pairs = ps; place = first_place r.from (part r.from r.to lib.entries) }))))
          (listing-listed lib.documents r.from r.to lib.entries order inside v.within)
      go (refused number) e = refl

  -- the conjunction of one to eight terms
  conjunction_over : (numbers : List ℕ) (size : ℕ) (next : List Pair → Outcome (List Pair)) → 0 < length numbers
      → refuse 10 (eqb size 0 || ltb 8 size) (next (queries.conjunction lib (distinct (take size numbers))))
      ≡ refuse 10 (eqb size 0 || ltb 8 size) (next (intersection lib (distinct (take size numbers))))
  conjunction_over [] size next some = absurd (omega arith)
  conjunction_over (t ∷ ts) zero next some = refl
  conjunction_over (t ∷ ts) (suc size) next some =
      ap (λ (ps : List Pair). refuse 10 (eqb (suc size) 0 || ltb 8 (suc size)) (next ps))
      (conjunction-intersection lib v t (keep (λ y. not (eqb t y)) (distinct (take size ts))))

  module _ (bytes : List ℕ) (holds : opened bytes ≡ answered lib) where
    -- what each question makes of the archive that it opens
    over : {A : Type 0} (f : Outcome Library → A) → f (opened bytes) ≡ f (answered lib)
    over f = ap f holds

    search_over : {A : Type 0} (range : Range) (k : ℕ) (answers work : List ℕ) (search : ℕ → ℕ → List ℕ → Found A)
        → search_result bytes range k answers work search
        ≡ found_into answers work
        (and_then (bounds_of lib range)
        (λ r.
        refuse 12 (ltb (length answers) (3 * min k lib.documents))
        (refuse 13 (ltb (length work) (4 * lib.documents)) (answered (search lib.documents r.from (part r.from r.to lib.entries))))))
    search_over range k answers work search =
        over
        (λ o.
        found_into answers work
        (and_then o
        (λ y.
        and_then (bounds_of y range)
        (λ r.
        refuse 12 (ltb (length answers) (3 * min k y.documents))
        (refuse 13 (ltb (length work) (4 * y.documents)) (answered (search y.documents r.from (part r.from r.to y.entries))))))))

    pub answers_over : AnswersOver bytes lib
    answers_over = record {
      entries = λ p. over (λ o. and_then o (λ y. refuse 11 (leb (length y.entries) p) (answered (get_or y.entries p 0))));
      counts = λ d p.
          over (λ o. and_then o (λ y. refuse 11 (leb y.documents d || ltb (length y.entries) p) (answered (rank d y.entries p))));
      places = λ d j. over (λ o. and_then o (λ y. refuse 11 (leb y.documents d || eqb j 0) (answered (select d y.entries j))));
      ranks = λ range r.
          over (λ o. and_then o (λ y. and_then (in_range y range) (λ xs. refuse 11 (leb (length xs) r) (answered (quantile r xs)))));
      listings = λ range answers.
          over
          (λ o.
          placed_into answers
          (and_then o
          (λ y.
          and_then (bounds_of y range)
          (λ r. refuse 12 (ltb (length answers) (3 * y.documents)) (answered (placed_listing y.documents r.from (part r.from r.to y.entries)))))))
          ∙ listing_over range (ltb (length answers) (3 * lib.documents)) answers;
      first_places = λ range r d e some.
          let (order, inside) = range_inside range r e in
          first-place-select d lib.entries r.from r.to order inside some;
      conjunctions = λ numbers size answers some.
          over
          (λ o.
          pairs_into answers
          (and_then o
          (λ y.
          refuse 10 (eqb size 0 || ltb 8 size)
          (refuse 11 (any (leb (length y.lengths)) (take size numbers))
          (refuse 12 (ltb (length answers) (2 * y.documents)) (answered (queries.conjunction y (distinct (take size numbers)))))))))
          ∙ ap (pairs_into answers)
          (conjunction_over numbers size
          (λ ps. refuse 11 (any (leb (length lib.lengths)) (take size numbers)) (refuse 12 (ltb (length answers) (2 * lib.documents)) (answered ps))) some);
      ranges = λ range. over (λ o. and_then o (λ y. bounds_of y range));
      greedy = λ range k allowance answers work.
          search_over range k answers work (λ N from xs. found_of (with_places from xs) N (top_k (height N) N xs k allowance));
      probing = λ range k answers work.
          search_over range k answers work
          (λ N from xs. let full = full_list N k xs in record { documents = N; numbers = with_places from xs full; answer = length full });
    }

-- ---- an archive

-- an accepted archive answers over what it holds
pub accepted_answers : (bytes : List ℕ) (s : Sizes) → opening bytes ≡ answered s → AnswersOver bytes (contents bytes)
accepted_answers bytes s e =
    answers_over (contents bytes) (read.contents_valid bytes (read.accepted bytes s e).0) bytes
    (ap (λ (o : Outcome Sizes). and_then o (λ z. answered (contents bytes))) e)

-- the archive of a library answers over that library
pub archive_answers : (lib : Library) (bytes : List ℕ) → archive_of lib ≡ answered bytes → AnswersOver bytes lib
archive_answers lib bytes e =
    let (opens, same) = read-written lib bytes e in
    answers_over lib (valid_archive lib bytes e).0 bytes
    (ap (λ (o : Outcome Sizes). and_then o (λ z. answered (contents bytes))) opens ∙ ap answered same)
