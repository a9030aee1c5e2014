-- From a node to its halves in a walk that asks for all terms, and what its ranges count.
use Prim.Native.Nat.{ℕ, suc, ◌+◌, ◌-◌, ◌*◌, ◌/◌, ◌%◌, ◌^◌, ◌≤◌, ◌<◌}
use native.Mathlib.Omega.{arith}
use native.Mathlib.Decide.{ℕ_discrete}
use mathlib.Core.Path.{◌≡◌, sym, ap, ap₂, ◌∙◌, subst}
use mathlib.Core.Logic.{◌⊎◌, inl, inr}
use mathlib.Core.List.{List}
use lib.ListN.{length, get_or}
use Rattle.bits.proofs.Tests.{le_or_lt}
use Rattle.model.specs.Opening.{contents}
use Rattle.model.specs.Queries.{under}
use Rattle.model.specs.TopK.{node, count_in}
use Rattle.model.proofs.Greedy.Counts.{count-halves}
use Rattle.wavelet.specs.declared.Span.{Span}
use Rattle.wavelet.specs.declared.Halves.{Halves}
use Rattle.wavelet.specs.declared.Ranked.{Ranked}
use Rattle.wavelet.specs.Spans.{halves_of, ranked_of}
use Rattle.archive.specs.declared.Layout.{Layout}
use Rattle.archive.specs.Layout.{Opened}
use Rattle.paths.specs.declared.query.Query.{Query}
use Rattle.paths.specs.Query.{spans, passes, bits, Known}
use Rattle.paths.specs.Chosen.{Chosen}
use Rattle.paths.specs.Paths.{frame_of, range_in, pair_in, passing, passing_both, passed_in, OrderedIfAny, Whole}
use Rattle.paths.proofs.TermSpans.{span-two, span-entries}
use Rattle.paths.proofs.NodeSteps.{range-ordered, low_bounds, high_bounds}
use Rattle.paths.proofs.Passing.{passing-empty, passed_bounds, passed-full, passed-entries}

-- an empty range takes from a half its bounds alone
passing_same : (here s t : Span) → here.hi ≤ here.lo → s.start ≡ t.start → s.end ≡ t.end → passing here s ≡ passing here t
passing_same here s t m e f =
    passing-empty here s m ∙ (λ i. record { start = e i; lo = here.lo; hi = here.hi; end = f i }) ∙ sym (passing-empty here t m)

module _ (q : Query) where
  abbrev bytes : List ℕ
  bytes = q.archive.bytes.now

  abbrev l : Layout
  l = q.archive.layout

  abbrev o : Opened bytes l
  o = q.archive.opened

  abbrev ts : List ℕ
  ts = q.terms.now

  abbrev a : Chosen l.terms ts
  a = q.chosen

  abbrev h : ℕ
  h = l.levels.height

  abbrev span : ℕ → ℕ → ℕ → Span
  span = spans q

  abbrev passed : ℕ → ℕ → ℕ → Span
  passed = passes q

  none_below : (j number k : ℕ) → j < h → (span j (number / 2) k).hi ≤ (span j (number / 2) k).lo → (span (suc j) number k).hi ≤ (span (suc j) number k).lo
  none_below j number k d m = go (ℕ_discrete (number % 2) 1)
    where
      xs : List ℕ
      xs = under (contents bytes) (get_or ts k 0)

      w : ℕ
      w = h - suc j

      up : h - j ≡ suc w
      up = omega arith

      all : count_in xs (node w (2 * (number / 2))) + count_in xs (node w (2 * (number / 2) + 1)) ≡ 0
      all =
          sym (count-halves xs w (number / 2)) ∙ ap (λ (i : ℕ). count_in xs (node i (number / 2))) (sym up)
          ∙ sym (span-entries q j (number / 2) k) ∙ omega arith

      half : (n : ℕ) → n ≡ number → count_in xs (node w n) ≡ 0 → (span (suc j) number k).hi ≤ (span (suc j) number k).lo
      half n e z = omega (arith, span-entries q (suc j) number k, ap (λ (i : ℕ). count_in xs (node w i)) e)

      go : Dec (number % 2 ≡ 1) → (span (suc j) number k).hi ≤ (span (suc j) number k).lo
      go (yes e) = half (2 * (number / 2) + 1) (omega arith) (omega (arith, all))
      go (no e) = half (2 * (number / 2)) (omega arith) (omega (arith, all))

  -- the entries in a node
  pub pass_entries : (j number k : ℕ) → j ≤ h → (passed j number k).hi - (passed j number k).lo ≡ count_in (under (contents bytes) (get_or ts k 0)) (node (h - j) number)
  pass_entries j number k d = passed-entries span h none_below j number k d ∙ span-entries q j number k

  module _ (j number : ℕ) where
    abbrev ones : List ℕ
    ones = bits q j

    -- a range in the halves
    module _ (k : ℕ) (d : j < h) (n : number < 2 ^ j) where
      abbrev here : Span
      here = passed j number k

      two : halves_of ones (span j number k) ≡ record { zero = span (suc j) (2 * number) k; one = span (suc j) (2 * number + 1) k }
      two = span-two q j number k d n

      middle : (ranked_of ones here.start here.end).middle ≡ (ranked_of ones (span j number k).start (span j number k).end).middle
      middle = ap₂ (λ (s e : ℕ). (ranked_of ones s e).middle) (passed_bounds span j number k).0 (passed_bounds span j number k).1

      halves-here : passing_both here (halves_of ones here) ≡ record { zero = passing here (span (suc j) (2 * number) k); one = passing here (span (suc j) (2 * number + 1) k) }
      halves-here = go (le_or_lt here.hi here.lo)
        where
          go : (here.hi ≤ here.lo) ⊎ (here.lo < here.hi)
              → passing_both here (halves_of ones here) ≡ record { zero = passing here (span (suc j) (2 * number) k); one = passing here (span (suc j) (2 * number + 1) k) }
          go (inl m) =
              let b = passed_bounds span j number k in
              λ i. record {
                zero = passing_same here (halves_of ones here).zero (span (suc j) (2 * number) k) m (b.0 ∙ ap (λ (h : Halves). h.zero.start) two) (middle ∙ ap (λ (h : Halves). h.zero.end) two) i;
                one = passing_same here (halves_of ones here).one (span (suc j) (2 * number + 1) k) m (middle ∙ ap (λ (h : Halves). h.one.start) two) (b.1 ∙ ap (λ (h : Halves). h.one.end) two) i;
              }
          go (inr m) = ap (λ (s : Span). passing_both here (halves_of ones s)) (passed-full span j number k m) ∙ ap (passing_both here) two

      halves-passed : passing_both here (halves_of ones here) ≡ record { zero = passed (suc j) (2 * number) k; one = passed (suc j) (2 * number + 1) k }
      halves-passed =
          let even : number ≡ 2 * number / 2 = omega arith in
          let odd : number ≡ (2 * number + 1) / 2 = omega arith in
          halves-here
          ∙ (λ i. record { zero = passing (passed j (even i) k) (span (suc j) (2 * number) k); one = passing (passed j (odd i) k) (span (suc j) (2 * number + 1) k) })

    -- ---- by the frame of the node

    module _ (path : List ℕ) (frame : ℕ) (f : frame ≡ frame_of j number) (w : Whole passed (length ts) path j number) where
      passed-at : (k : ℕ) → k < length ts → range_in path frame k ≡ passed j number k
      passed-at k m = subst (λ (x : ℕ). range_in path x k ≡ passed j number k) (sym f) (w k m)

      pub pass_bounds : (get_or path (2 * frame) 0 ≡ (span j number 0).start) × (get_or path (2 * frame + 1) 0 ≡ (span j number 0).end)
      pass_bounds =
          let b = passed_bounds span j number 0 in
          (ap (λ (s : Span). s.start) (passed-at 0 a.some) ∙ b.0, ap (λ (s : Span). s.end) (passed-at 0 a.some) ∙ b.1)

      module _ (x : Ranked) (e : Known q j number x) (k : ℕ) (m : k < length ts) where
        pub pass_ordered : OrderedIfAny l.levels.entries (pair_in x path (frame + 1 + k))
        pass_ordered n =
            let p = passed-at k m in
            let full = passed-full span j number k (omega (arith, ap (λ (s : Span). s.lo) p, ap (λ (s : Span). s.hi) p)) in
            range-ordered q j number path frame k m (p ∙ full) x e

        here_is : pair_in x path (frame + 1 + k) ≡ passed j number k
        here_is =
            let b = passed_bounds span j number k in
            λ i. record {
              start = (ap (λ (r : Ranked). r.start) e ∙ sym b.0) i;
              lo = ap (λ (s : Span). s.lo) (passed-at k m) i;
              hi = ap (λ (s : Span). s.hi) (passed-at k m) i;
              end = (ap (λ (r : Ranked). r.end) e ∙ sym b.1) i;
            }

        pub pass_halves : j < h → number < 2 ^ j
            → passed_in ones x path (frame + 1 + k) ≡ record { zero = passed (suc j) (2 * number) k; one = passed (suc j) (2 * number + 1) k }
        pass_halves d n =
            ap (λ (s : Span). passing_both s (halves_of ones s)) here_is ∙ halves-passed k d n

    -- the bounds of its halves
    module _ (x : Ranked) (e : Known q j number x) (d : j < h) (n : number < 2 ^ j) where
      pub pass_low : (i : ℕ) → (x.start ≡ (passed (suc j) (2 * number) i).start) × (x.middle ≡ (passed (suc j) (2 * number) i).end)
      pass_low i =
          let b = low_bounds q j number x e d n i in
          let p = passed_bounds span (suc j) (2 * number) i in
          (b.0 ∙ sym p.0, b.1 ∙ sym p.1)

      pub pass_high : (i : ℕ) → (x.middle ≡ (passed (suc j) (2 * number + 1) i).start) × (x.end ≡ (passed (suc j) (2 * number + 1) i).end)
      pass_high i =
          let b = high_bounds q j number x e d n i in
          let p = passed_bounds span (suc j) (2 * number + 1) i in
          (b.0 ∙ sym p.0, b.1 ∙ sym p.1)
