-- The definitions are the papers': counts are differences of ranks, the listing is the iteration of quantile, and the conjunction the intersection.
use Prim.Native.Nat.{ℕ, zero, suc, ◌+◌, ◌-◌, ◌≤◌, ◌<◌}
use native.Mathlib.Omega.{arith}
use native.Mathlib.Nat.{zero-add}
use mathlib.Core.Path.{◌≡◌, refl, sym, ap, ap₂, ◌∙◌, fun_ext}
use mathlib.Core.Logic.{◌⊎◌, inl, inr}
use mathlib.Core.List.{List, [], ◌∷◌, map}
use mathlib.Core.Bool.{Bool, true, false, cond, ◌&&◌}
use lib.ListN.{length}
use lib.Dec.{ltb, eqb}
use borrow.Author.Tests.{lt-ltb, le-ltb}
use Rattle.bits.specs.Sequences.{tally, all, up_from, below, occurrences, rank}
use Rattle.bits.specs.Bits.{sum}
use Rattle.bits.proofs.Tests.{le_or_lt}
use Rattle.bits.proofs.Tally.{tally_none, tally_le_length}
use Rattle.model.specs.Lists.{keep, part, Within}
use Rattle.model.specs.Format.{Library}
use Rattle.model.specs.Queries.{Pair, term_start, quantile, pair_of, present, listing, under, counts_under, conjunction}
use Rattle.model.specs.Papers.{frequency, listed_from, listed, difference, occurs, occurrence_list, differences, intersection}
use Rattle.model.proofs.Sums.{sum-take_mono, sum-take_le}
use Rattle.model.proofs.Lists.{keep-keep, tally-part, length_part, within_part, tally_within}
use Rattle.model.proofs.Wavelet.Sorted.{tally-below-suc, quantile_is}
use Rattle.model.proofs.Format.Valid.{Valid}

-- ---- listing

-- the count of a document in a range is the difference of its ranks
pub count-difference : (d a b : ℕ) (xs : List ℕ) → a ≤ b → occurrences d (part a b xs) ≡ rank d xs b - rank d xs a
count-difference d a b xs l = omega (arith, tally-part (eqb d) a b xs l)

module _ (N a b : ℕ) (xs : List ℕ) (order : a ≤ b) (inside : b ≤ length xs) (within : Within N xs) where
  abbrev range : List ℕ
  range = part a b xs

  -- the documents from s on are listed once those below s are
  abbrev Step : ℕ → ℕ → Type 0
  Step s n = (fuel : ℕ) → length range ≤ tally (λ v. ltb v s) range + fuel
      → keep present (map (pair_of range) (up_from s n)) ≡ listed_from xs a b fuel (tally (λ v. ltb v s) range)

  -- a document of the range is the quantile at the number of entries below it
  listed_here : (s n : ℕ) → Step (suc s) n → 0 < occurrences s range → Step s (suc n)
  listed_here s n next some zero l = absurd (omega (arith, tally-below-suc s range, tally_le_length (λ v. ltb v (suc s)) range))
  listed_here s n next some (suc fuel) l =
      let r : ℕ = tally (λ v. ltb v s) range in
      let up : tally (λ v. ltb v (suc s)) range ≡ r + occurrences s range = tally-below-suc s range in
      let most = tally_le_length (λ v. ltb v (suc s)) range in
      let here : r < b - a = omega (arith, length_part a b xs inside) in
      let at : quantile r range ≡ s = quantile_is range r s (record { under = omega arith; over = omega arith }) (omega arith) in
      let count : occurrences s range ≡ frequency xs a b s = count-difference s a b xs order in
      let rest = next fuel (omega arith) in
      rw (lt-ltb 0 (occurrences s range) some, lt-ltb r (b - a) here, at)
      (ap₂ (λ (c : ℕ) (ps : List Pair). record { document = s; count = c } ∷ ps) count (rest ∙ ap (listed_from xs a b fuel) (omega arith)))

  -- a number that does not occur there is not listed
  listed_over : (s n : ℕ) → Step (suc s) n → occurrences s range < 1 → Step s (suc n)
  listed_over s n next none fuel l =
      let up = tally-below-suc s range in
      rw (le-ltb 0 (occurrences s range) (omega arith)) (next fuel (omega arith) ∙ ap (listed_from xs a b fuel) (omega arith))

  listed-step : (s n : ℕ) → Step (suc s) n → Step s (suc n)
  listed-step s n next = go (le_or_lt 1 (occurrences s range))
    where
      go : (1 ≤ occurrences s range) ⊎ (occurrences s range < 1) → Step s (suc n)
      go (inl some) = listed_here s n next some
      go (inr none) = listed_over s n next none

  listed-end : (s : ℕ) → s ≡ N → Step s 0
  listed-end s e zero l = refl
  listed-end s e (suc fuel) l =
      let all-below : tally (λ v. ltb v s) range ≡ length range = tally_within (λ v. ltb v s) N (λ v h. lt-ltb v s (omega arith)) range (within_part N a b xs within) in
      rw (le-ltb (tally (λ v. ltb v s) range) (b - a) (omega (arith, length_part a b xs inside)))

  listed-from : (s n : ℕ) → s + n ≡ N → Step s n
  listed-from s zero e = listed-end s (omega arith)
  listed-from s (suc n) e = listed-step s n (listed-from (suc s) n (omega arith))

  pub listing-listed : listing N range ≡ listed xs a b
  listing-listed =
      let none : tally (λ v. ltb v 0) range ≡ 0 = tally_none (λ v. ltb v 0) (λ v. le-ltb v 0 (omega arith)) range in
      let size = length_part a b xs inside in
      listed-from 0 N (zero-add N) (b - a) (omega arith) ∙ ap (listed_from xs a b (b - a)) none

-- ---- conjunction

-- the documents of a listing
documents-of : (N : ℕ) (xs : List ℕ) → map (λ p. p.document) (listing N xs) ≡ keep (λ d. ltb 0 (occurrences d xs)) (below N)
documents-of N xs = go (below N)
  where
    one : (d : ℕ) (ds : List ℕ) (c : Bool) → map (λ p. p.document) (keep present (map (pair_of xs) ds)) ≡ keep (λ e. ltb 0 (occurrences e xs)) ds
        → map (λ p. p.document) (cond c (pair_of xs d ∷ keep present (map (pair_of xs) ds)) (keep present (map (pair_of xs) ds)))
        ≡ cond c (d ∷ keep (λ e. ltb 0 (occurrences e xs)) ds) (keep (λ e. ltb 0 (occurrences e xs)) ds)
    one d ds true i = ap (λ (l : List ℕ). d ∷ l) i
    one d ds false i = i

    go : (ds : List ℕ) → map (λ p. p.document) (keep present (map (pair_of xs) ds)) ≡ keep (λ d. ltb 0 (occurrences d xs)) ds
    go [] = refl
    go (d ∷ ds) = one d ds (ltb 0 (occurrences d xs)) (go ds)

module _ (lib : Library) where
  term_order : (t : ℕ) → term_start lib t ≤ term_start lib (suc t)
  term_order t = sum-take_mono lib.lengths t (suc t) (omega arith)

  -- the count of a document under a term
  pub count_under : (d t : ℕ) → occurrences d (under lib t) ≡ difference lib d t
  count_under d t = count-difference d (term_start lib t) (term_start lib (suc t)) lib.entries (term_order t)

  all_map : (d : ℕ) (ts : List ℕ) → all (ltb 0) (map (difference lib d) ts) ≡ all (occurs lib d) ts
  all_map d [] = refl
  all_map d (t ∷ ts) = ap (λ (c : Bool). occurs lib d t && c) (all_map d ts)

  counts-under : (terms : List ℕ) (d : ℕ) → counts_under lib terms d ≡ map (difference lib d) terms
  counts-under terms d = ap (λ (f : ℕ → ℕ). map f terms) (fun_ext (count_under d))

  -- the documents that pass (1) for each of the terms, with the sum of the differences
  pub conjunction-differences : (terms : List ℕ) → conjunction lib terms ≡ map (differences lib terms) (keep (λ d. all (occurs lib d) terms) (below lib.documents))
  conjunction-differences terms =
      ap (λ (f : ℕ → List ℕ). map (λ d. record { document = d; count = sum (f d) }) (keep (λ d. all (ltb 0) (f d)) (below lib.documents))) (fun_ext (counts-under terms))
      ∙ ap (λ (f : ℕ → Bool). map (differences lib terms) (keep f (below lib.documents))) (fun_ext (λ d. all_map d terms))

  -- .. and these are the ones that the candidate checking finds
  pub conjunction-intersection : Valid lib → (t : ℕ) (ts : List ℕ) → conjunction lib (t ∷ ts) ≡ intersection lib (t ∷ ts)
  conjunction-intersection v t ts =
      let inside : term_start lib (suc t) ≤ length lib.entries = omega (arith, sum-take_le lib.lengths (suc t), v.total) in
      let list : listing lib.documents (under lib t) ≡ listed lib.entries (term_start lib t) (term_start lib (suc t))
      = listing-listed lib.documents (term_start lib t) (term_start lib (suc t)) lib.entries (term_order t) inside v.within in
      let candidates : occurrence_list lib t ≡ keep (λ d. occurs lib d t) (below lib.documents)
      = ap (map (λ p. p.document)) (sym list) ∙ documents-of lib.documents (under lib t)
      ∙ ap (λ (f : ℕ → ℕ). keep (λ d. ltb 0 (f d)) (below lib.documents)) (fun_ext (λ d. count_under d t)) in
      conjunction-differences (t ∷ ts)
      ∙ ap (map (differences lib (t ∷ ts))) (sym (keep-keep (λ d. all (occurs lib d) ts) (λ d. occurs lib d t) (below lib.documents)) ∙ ap (keep (λ d. all (occurs lib d) ts)) (sym candidates))
