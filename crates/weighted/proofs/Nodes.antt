-- The score of a node by its frame in the path, and the ground of the search.
use Prim.Native.Nat.{ℕ, ◌+◌, ◌-◌, ◌*◌, ◌≤◌, ◌<◌}
use native.Mathlib.Omega.{arith}
use mathlib.Core.Path.{◌≡◌, refl, sym, ap, ap₂, ◌∙◌, subst}
use mathlib.Core.List.{List, [], ◌∷◌, map}
use lib.ListN.{length, get_or}
use lib.Dec.{ltb}
use Rattle.bits.specs.Bits.{sum}
use Rattle.model.specs.Opening.{contents}
use Rattle.model.specs.Queries.{under}
use Rattle.model.specs.TopK.{Node, node, count_in}
use Rattle.model.specs.Weighted.{Weighed, weighed_term, score_in, lives_in, documents_in}
use Rattle.model.specs.Lists.{Within}
use Rattle.model.proofs.Weighted.Weights.{weight_le_48}
use Rattle.model.proofs.Weighted.Scores.{AllWithin, scored, not_living}
use Rattle.model.proofs.Weighted.Theorem.{weighed_within, weighed-score}
use Rattle.wavelet.specs.declared.Span.{Span}
use Rattle.archive.specs.declared.Layout.{Layout}
use Rattle.archive.specs.Layout.{Opened}
use Rattle.archive.proofs.Opened.{fitting, stored, entries-size, entries_within, documents_fit, documents-are, limits}
use Rattle.paths.specs.declared.query.Query.{Query}
use Rattle.paths.specs.Query.{size, passes}
use Rattle.paths.specs.Paths.{frame_of, count_at, Whole}
use Rattle.paths.proofs.PassSteps.{pass_entries}
use Rattle.moves.proofs.Grounds.{Sound}
use Rattle.weighted.specs.Totals.{total}
use Rattle.weighted.specs.Grounds.{weighed_in, ground_of}
use Rattle.weighted.specs.Weights.{Weighs}
use Rattle.weighted.proofs.Totals.{total-terms, any_sum}

sum-weighed : (f : Weighed → ℕ) (g : ℕ → Weighed) (ts : List ℕ) → sum (map (λ t. f (g t)) ts) ≡ sum (map f (map g ts))
sum-weighed f g [] = refl
sum-weighed f g (t ∷ ts) = ap (λ (n : ℕ). f (g t) + n) (sum-weighed f g ts)

module _ (q : Query) where
  abbrev bytes : List ℕ
  bytes = q.archive.bytes.now

  abbrev l : Layout
  l = q.archive.layout

  abbrev o : Opened bytes l
  o = q.archive.opened

  abbrev h : ℕ
  h = l.levels.height

  abbrev ts : List ℕ
  ts = q.terms.now

  documents_few : (contents bytes).documents ≤ 4096
  documents_few = omega (arith, documents-are bytes l o, (fitting bytes l o).documents)

  -- no weight is above 48, no score above 25,165,440
  pub weights_few : (weights : List ℕ) → Weighs bytes ts weights → (k : ℕ) → k < length ts → get_or weights k 0 ≤ 48
  weights_few weights w k m =
      let lib = contents bytes in
      omega (arith, w k m, weight_le_48 lib.documents (documents_in lib.documents (under lib (get_or ts k 0))) documents_few)

  pub score_few : (n : Node) → score_in (weighed_in q) n ≤ 25165440
  score_few n =
      weighed-score (contents bytes) documents_few (omega (arith, entries-size bytes l o, (fitting bytes l o).entries)) ts q.chosen.few n

  -- ---- by the frame of a node

  module _ (path : List ℕ) (j number : ℕ) (d : j ≤ h) (w : Whole (passes q) (size q) path j number) where
    abbrev here : Node
    here = node (h - j) number

    count_is : (k : ℕ) → k < length ts → count_at path (frame_of j number) k ≡ count_in (under (contents bytes) (get_or ts k 0)) here
    count_is k m = ap (λ (s : Span). s.hi - s.lo) (w k m) ∙ pass_entries q j number k d

    pub score_is : (weights : List ℕ) → Weighs bytes ts weights
        → total (λ k. get_or weights k 0 * count_at path (frame_of j number) k) (size q) ≡ score_in (weighed_in q) here
    score_is weights v =
        total-terms (λ t. (weighed_term (contents bytes) t).weight * count_in (under (contents bytes) t) here) (λ k. get_or weights k 0 * count_at path (frame_of j number) k) ts
        (λ k m. ap₂ (λ (x y : ℕ). x * y) (v k m) (count_is k m))
        ∙ sum-weighed (λ w. w.weight * count_in w.entries here) (weighed_term (contents bytes)) ts

    pub lives_is : ltb 0 (total (count_at path (frame_of j number)) (size q)) ≡ lives_in (weighed_in q) here
    lives_is =
        ap (ltb 0)
        (total-terms (λ t. count_in (under (contents bytes) t) here) (count_at path (frame_of j number)) ts count_is
        ∙ sum-weighed (λ w. count_in w.entries here) (weighed_term (contents bytes)) ts)
        ∙ sym (any_sum (λ w. count_in w.entries here) (weighed_in q))

  -- ---- the ground

  -- all entries of the terms are documents
  pub terms_within : AllWithin l.documents (weighed_in q)
  terms_within =
      subst (λ (n : ℕ). AllWithin n (weighed_in q)) (documents-are bytes l o)
      (weighed_within (contents bytes) (subst (λ (n : ℕ). Within n (contents bytes).entries) (sym (documents-are bytes l o)) (entries_within bytes l o)) ts)

  pub sound : Sound (ground_of q)
  sound = record {
    low = (stored bytes l o).low;
    some = (limits bytes l o).some_document;
    few = (fitting bytes l o).documents;
    fits = documents_fit bytes l o;
    counted = scored (weighed_in q);
    outside = λ d m u. not_living l.documents (weighed_in q) terms_within d m;
  }
