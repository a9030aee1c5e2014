-- The counts of terms at the leaves of an opened archive.
use Prim.Native.Nat.{ℕ, zero, suc, ◌-◌, ◌/◌, ◌^◌, ◌≤◌, ◌<◌}
use native.Mathlib.Omega.{arith}
use mathlib.Core.Path.{◌≡◌, refl, sym, ap, ◌∙◌}
use mathlib.Core.List.{List, [], ◌∷◌, map}
use mathlib.Core.Bool.{Bool, true, false, ◌&&◌}
use lib.ListN.{length, get_or}
use lib.Dec.{ltb, eqb}
use borrow.Author.Tests.{le-ltb, eqb-true, eq-eqb}
use Rattle.bits.specs.Sequences.{all, occurrences, below}
use Rattle.bits.proofs.Tally.{tally_le}
use Rattle.model.specs.Opening.{contents}
use Rattle.model.specs.Queries.{under, counts_under}
use Rattle.model.proofs.Wavelet.Rank.{tally_leaf}
use Rattle.wavelet.specs.declared.Span.{Span}
use Rattle.archive.specs.declared.Layout.{Layout}
use Rattle.paths.specs.declared.query.Query.{Query}
use Rattle.paths.specs.Query.{size, spans}
use Rattle.paths.specs.Paths.{frame_of, count_at, Whole}
use Rattle.paths.proofs.TermSpans.{by_places, span-entries}
use Rattle.paths.proofs.Openings.{Dead}
use Rattle.conjunction.proofs.Commons.{matches}

-- one that is 0
none_false : (f : ℕ → ℕ) (ts : List ℕ) (k : ℕ) → k < length ts → f (get_or ts k 0) ≤ 0 → all (ltb 0) (map f ts) ≡ false
none_false f [] k l z = absurd (omega arith)
none_false f (t ∷ ts) zero l z = rw (le-ltb 0 (f t) z)
none_false f (t ∷ ts) (suc k) l z = and_right (ltb 0 (f t)) (all (ltb 0) (map f ts)) (none_false f ts k (omega arith) z)
  where
    and_right : (a b : Bool) → b ≡ false → (a && b) ≡ false
    and_right true b e = e
    and_right false b e = refl

module _ (q : Query) where
  abbrev bytes : List ℕ
  bytes = q.archive.bytes.now

  abbrev l : Layout
  l = q.archive.layout

  abbrev h : ℕ
  h = l.levels.height

  -- at a leaf
  pub leaf_entries : (number k : ℕ) → (spans q h number k).hi - (spans q h number k).lo ≡ occurrences number (under (contents bytes) (get_or q.terms.now k 0))
  leaf_entries number k = span-entries q h number k ∙ tally_leaf h number (under (contents bytes) (get_or q.terms.now k 0))

  abbrev pub counts : ℕ → List ℕ
  counts d = counts_under (contents bytes) q.terms.now d

  -- a document's counts, by the places of the terms
  pub counts-are : (c : ℕ → ℕ) (d : ℕ) → ((k : ℕ) → k < size q → c k ≡ occurrences d (under (contents bytes) (get_or q.terms.now k 0))) → map c (below (size q)) ≡ counts d
  counts-are c d e = by_places (λ t. occurrences d (under (contents bytes) t)) c q.terms.now e

  -- where a term has no entry in a node, none of its numbers is common
  pub dead_matches : (j number d : ℕ) → Dead (spans q) j number (size q) → d / 2 ^ (h - j) ≡ number → matches counts d ≡ false
  dead_matches j number d dead e =
      let k = dead.which in
      let t : ℕ = get_or q.terms.now k 0 in
      none_false (λ t. occurrences d (under (contents bytes) t)) q.terms.now k dead.lt
      (omega (
        arith,
        dead.none,
        span-entries q j number k,
        tally_le (eqb d) (λ v. eqb (v / 2 ^ (h - j)) number) (λ v p. eq-eqb (v / 2 ^ (h - j)) number (ap (λ (x : ℕ). x / 2 ^ (h - j)) (sym (eqb-true d v p)) ∙ e)) (under (contents bytes) t),
      ))

  -- a leaf whose frame is whole: its counts are those of the document
  pub leaf_counts : (path : List ℕ) (number : ℕ) → Whole (spans q) (size q) path h number → map (count_at path (frame_of h number)) (below (size q)) ≡ counts number
  leaf_counts path number w =
      counts-are (count_at path (frame_of h number)) number (λ k m. ap (λ (s : Span). s.hi - s.lo) (w k m) ∙ leaf_entries number k)
