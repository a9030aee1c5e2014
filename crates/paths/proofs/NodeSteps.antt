-- From a node whose terms all have entries to its halves, by the node's ranks.
use Prim.Native.Nat.{ℕ, suc, ◌+◌, ◌*◌, ◌^◌, ◌≤◌, ◌<◌}
use native.Mathlib.Omega.{arith}
use mathlib.Core.Path.{◌≡◌, sym, ap, ◌∙◌, subst}
use mathlib.Core.List.{List}
use lib.ListN.{length, get_or}
use Rattle.wavelet.specs.declared.Span.{Span}
use Rattle.wavelet.specs.declared.Halves.{Halves}
use Rattle.wavelet.specs.declared.Ranked.{Ranked}
use Rattle.wavelet.specs.Spans.{Ordered, halves_of, ranked_of, span_in}
use Rattle.archive.specs.declared.Layout.{Layout}
use Rattle.archive.specs.Layout.{Opened}
use Rattle.paths.specs.declared.query.Query.{Query}
use Rattle.paths.specs.Query.{spans, bits, Known, RanksItself}
use Rattle.paths.specs.Chosen.{Chosen}
use Rattle.paths.specs.Paths.{frame_of, range_in, Whole}
use Rattle.paths.proofs.TermSpans.{span-order, span-two}

module _ (q : Query) (j number : ℕ) where
  abbrev bytes : List ℕ
  bytes = q.archive.bytes.now

  abbrev l : Layout
  l = q.archive.layout

  abbrev o : Opened bytes l
  o = q.archive.opened

  abbrev ts : List ℕ
  ts = q.terms.now

  abbrev a : Chosen l.terms ts
  a = q.chosen

  abbrev span : ℕ → ℕ → ℕ → Span
  span = spans q

  abbrev ones : List ℕ
  ones = bits q j

  -- by the bounds in its frame, as the code reads them
  module _ (path : List ℕ) (frame : ℕ) (f : frame ≡ frame_of j number)
      (bounds : (get_or path (2 * frame_of j number) 0 ≡ (span j number 0).start) × (get_or path (2 * frame_of j number + 1) 0 ≡ (span j number 0).end)) where
    start_at : get_or path (2 * frame) 0 ≡ (span j number 0).start
    start_at = ap (λ (x : ℕ). get_or path (2 * x) 0) f ∙ bounds.0

    end_at : get_or path (2 * frame + 1) 0 ≡ (span j number 0).end
    end_at = ap (λ (x : ℕ). get_or path (2 * x + 1) 0) f ∙ bounds.1

    pub bounds_order : (get_or path (2 * frame) 0 ≤ get_or path (2 * frame + 1) 0) × (get_or path (2 * frame + 1) 0 ≤ l.levels.entries)
    bounds_order =
        let s = start_at in
        let e = end_at in
        let r = span-order q j number 0 a.some in
        (omega (arith, r.from, r.range, r.to), omega (arith, r.inside))

    pub bounds_known : (xs : List ℕ) (node : Ranked) → xs ≡ ones → node ≡ ranked_of xs (get_or path (2 * frame) 0) (get_or path (2 * frame + 1) 0) → Known q j number node
    bounds_known xs node same g = g ∙ (λ i. ranked_of (same i) (start_at i) (end_at i))

  -- a term's range, as it stands in the frame
  module _ (path : List ℕ) (frame k : ℕ) (m : k < length ts) (r : range_in path frame k ≡ span j number k) (node : Ranked) (e : Known q j number node) where
    range_is : span_in node (get_or path (2 * (frame + 1 + k)) 0) (get_or path (2 * (frame + 1 + k) + 1) 0) ≡ span j number k
    range_is = λ i. record {
      start = ap (λ (r : Ranked). r.start) e i;
      lo = ap (λ (s : Span). s.lo) r i;
      hi = ap (λ (s : Span). s.hi) r i;
      end = ap (λ (r : Ranked). r.end) e i;
    }

    pub range-ordered : Ordered l.levels.entries (span_in node (get_or path (2 * (frame + 1 + k)) 0) (get_or path (2 * (frame + 1 + k) + 1) 0))
    range-ordered = subst (Ordered l.levels.entries) (sym range_is) (span-order q j number k m)

  -- where the frame has all of them
  module _ (path : List ℕ) (frame : ℕ) (f : frame ≡ frame_of j number) (w : Whole span (length ts) path j number) where
    whole-at : (k : ℕ) → k < length ts → range_in path frame k ≡ span j number k
    whole-at k m = subst (λ (x : ℕ). range_in path x k ≡ span j number k) (sym f) (w k m)

    pub whole_bounds : (get_or path (2 * frame) 0 ≡ (span j number 0).start) × (get_or path (2 * frame + 1) 0 ≡ (span j number 0).end)
    whole_bounds = (ap (λ (s : Span). s.start) (whole-at 0 a.some), ap (λ (s : Span). s.end) (whole-at 0 a.some))

    module _ (node : Ranked) (e : Known q j number node) (k : ℕ) (m : k < length ts) where
      pub span-ordered_is : Ordered l.levels.entries (span_in node (get_or path (2 * (frame + 1 + k)) 0) (get_or path (2 * (frame + 1 + k) + 1) 0))
      span-ordered_is = range-ordered path frame k m (whole-at k m) node e

      pub span-halves-are : j < l.levels.height → number < 2 ^ j
          → halves_of ones (span_in node (get_or path (2 * (frame + 1 + k)) 0) (get_or path (2 * (frame + 1 + k) + 1) 0))
          ≡ record { zero = span (suc j) (2 * number) k; one = span (suc j) (2 * number + 1) k }
      span-halves-are d n = ap (halves_of ones) (range_is path frame k m (whole-at k m) node e) ∙ span-two q j number k d n

  -- the bounds of its halves
  module _ (node : Ranked) (e : Known q j number node) where
    pub known_self : RanksItself q j node
    known_self = e ∙ (λ i. ranked_of ones (sym (ap (λ (r : Ranked). r.start) e) i) (sym (ap (λ (r : Ranked). r.end) e) i))

    module _ (d : j < l.levels.height) (n : number < 2 ^ j) where
      pub low_bounds : (i : ℕ) → (node.start ≡ (span (suc j) (2 * number) i).start) × (node.middle ≡ (span (suc j) (2 * number) i).end)
      low_bounds i =
          let two = span-two q j number i d n in (
            ap (λ (r : Ranked). r.start) e ∙ ap (λ (h : Halves). h.zero.start) two,
            ap (λ (r : Ranked). r.middle) e ∙ ap (λ (h : Halves). h.zero.end) two,
          )

      pub high_bounds : (i : ℕ) → (node.middle ≡ (span (suc j) (2 * number + 1) i).start) × (node.end ≡ (span (suc j) (2 * number + 1) i).end)
      high_bounds i =
          let two = span-two q j number i d n in (
            ap (λ (r : Ranked). r.middle) e ∙ ap (λ (h : Halves). h.one.start) two,
            ap (λ (r : Ranked). r.end) e ∙ ap (λ (h : Halves). h.one.end) two,
          )

      pub known_few : (node.start ≤ l.levels.entries) × (node.middle ≤ l.levels.entries) × (node.end ≤ l.levels.entries)
      known_few =
          let r = span-order q (suc j) (2 * number) 0 a.some in
          let s = span-order q (suc j) (2 * number + 1) 0 a.some in
          let x = low_bounds 0 in
          let y = high_bounds 0 in
          (omega (arith, r.from, r.range, r.to, r.inside), omega (arith, r.inside), omega (arith, s.inside))
