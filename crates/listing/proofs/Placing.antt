-- Pairs of a listing that get their places: each of its documents has an entry in the range, and its place in a table of first places.
use Prim.Native.Nat.{ℕ, ◌*◌, ◌≤◌}
use native.Mathlib.Omega.{arith}
use mathlib.Core.Path.{◌≡◌, refl, sym, ap, ◌∙◌, subst}
use mathlib.Core.List.{List, [], ◌∷◌, map}
use mathlib.Core.Bool.{Bool}
use lib.ListN.{length, get_or}
use lib.Dec.{ltb, eqb}
use borrow.Author.Tests.{ltb-true, lt-ltb, eq-eqb, eqb-true}
use Rattle.bits.specs.Sequences.{below, occurrences}
use Rattle.model.specs.Lists.{Every, Within, part, overwrite}
use Rattle.model.specs.Queries.{Pair, pair_of, present, listing, pairs_in, first_place, flat_placed, placed_listing}
use Rattle.model.specs.TopK.{with_places}
use Rattle.model.proofs.Lists.{within_part}
use Rattle.model.proofs.FirstPlaces.{flat_placed_same}
use Rattle.model.proofs.Sorting.{every_cons, every_imply, every_keep}
use Rattle.answers.specs.Spread.{Counted}
use Rattle.answers.specs.Written.{Lists, ListsPlaced}
use Rattle.answers.proofs.Occurrences.{occurs_lt}
use Rattle.answers.proofs.Spreads.{pairs-written, length-written, placed_written}
use Rattle.listing.specs.Places.{FirstPlaces}
use Rattle.listing.proofs.Listed.{listing_le}

module _ (xs : List ℕ) (a b : ℕ) (first : List ℕ) (ps : List Pair) (all : Counted (part a b xs) ps) where
  -- each document has a place in the table
  pub noted_inside : (n : ℕ) → Within n xs → n ≤ length first → Every (λ p. ltb p.document (length first)) ps
  noted_inside n within wide =
      every_imply (λ p. ltb 0 (occurrences p.document (part a b xs))) (λ p. ltb p.document (length first))
      (λ p e.
      lt-ltb p.document (length first)
      (omega (arith, occurs_lt n p.document (part a b xs) (within_part n a b xs within) (ltb-true 0 (occurrences p.document (part a b xs)) e)))) ps all.0

  -- which is its first place
  pub noted-first : FirstPlaces xs a b first → flat_placed (λ d. get_or first d 0) ps ≡ with_places a (part a b xs) ps
  noted-first places =
      flat_placed_same (λ d. get_or first d 0) (first_place a (part a b xs)) (λ p. ltb 0 (occurrences p.document (part a b xs))) ps all.0
      (λ p e. places p.document (ltb-true 0 (occurrences p.document (part a b xs)) e))

-- ---- the documents of a listing have entries in the range, and their counts

module _ (xs : List ℕ) where
  abbrev exact : Pair → Bool
  exact p = eqb p.count (occurrences p.document xs)

  all-exact : (ds : List ℕ) → Every exact (map (pair_of xs) ds)
  all-exact [] = refl
  all-exact (d ∷ ds) = every_cons exact (pair_of xs d) (map (pair_of xs) ds) (eq-eqb (occurrences d xs) (occurrences d xs) refl) (all-exact ds)

  pub listing-counted : (N : ℕ) → Counted xs (listing N xs)
  listing-counted N = (
    every_keep exact (λ p. ltb 0 (occurrences p.document xs)) present
        (λ p here e. ap (ltb 0) (sym (eqb-true p.count (occurrences p.document xs) e)) ∙ here) (map (pair_of xs) (below N)) (all-exact (below N)),
    every_keep exact exact present (λ p here e. e) (map (pair_of xs) (below N)) (all-exact (below N)),
  )

-- ---- what a listing leaves, spread

module _ (N : ℕ) (few : N ≤ 4096) (xs : List ℕ) (ps : List Pair) (is : ps ≡ listing N xs) (out : List ℕ) (room : 3 * N ≤ length out)
    (n : ℕ) (after : List ℕ) (lists : Lists ps n out after) where
  short : length ps ≤ N
  short = rw is (listing_le N xs)

  pub listing_ready : (3 * n ≤ length after) × (n ≤ 4096) × Counted xs (pairs_in after n)
  listing_ready =
      rw (lists.1, lists.0) (
        omega (arith, length-written ps out (omega (arith, short)), short),
        omega (arith, short),
        subst (Counted xs) (sym (pairs-written ps out ∙ is)) (listing-counted xs N),
      )

  pub listing_placed : (a : ℕ) (final : List ℕ) → final ≡ overwrite (with_places a xs (pairs_in after n)) after → ListsPlaced (placed_listing N a xs) n out final
  listing_placed a final e = (
    lists.0 ∙ ap length is,
    e ∙ (λ i. overwrite (with_places a xs (pairs_in (lists.1 i) (lists.0 i))) (lists.1 i)) ∙ placed_written ps out (first_place a xs)
        ∙ ap (λ (qs : List Pair). overwrite (with_places a xs qs) out) is,
  )
