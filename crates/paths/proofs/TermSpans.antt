-- The places of terms in the nodes of an opened archive: their halves, their order, and what they count.
use Prim.Native.Nat.{ℕ, suc, ◌-◌, ◌*◌, ◌+◌, ◌^◌, ◌≤◌, ◌<◌}
use native.Mathlib.Omega.{arith}
use mathlib.Core.Path.{◌≡◌, sym, ap, ◌∙◌, subst}
use mathlib.Core.List.{List, map}
use lib.ListN.{length, get_or, length-map}
use lib.Seq.{ext_get_or}
use Rattle.bits.specs.Sequences.{below}
use Rattle.bits.proofs.Tally.{length-up_from, get_or-map-below}
use Rattle.model.specs.Lists.{part}
use Rattle.model.specs.Opening.{contents}
use Rattle.model.specs.Queries.{term_start, under}
use Rattle.model.specs.TopK.{node, count_in}
use Rattle.model.proofs.Lists.{within_at, get_or-map}
use Rattle.model.proofs.Sums.{sum-take_le}
use Rattle.wavelet.specs.Levels.{entries_in, level_of}
use Rattle.wavelet.specs.Spans.{Ordered, halves_of}
use Rattle.wavelet.proofs.Stored.{length-entries_in, within_entries_in}
use Rattle.wavelet.proofs.Spans.{span-root, span-halves, span-count, span-ordered}
use Rattle.archive.specs.declared.Layout.{Layout}
use Rattle.archive.specs.Layout.{Opened}
use Rattle.archive.proofs.Opened.{entries-are, lengths_total, start_le}
use Rattle.archive.proofs.TermTable.{term_start_mono}
use Rattle.paths.specs.declared.query.Query.{Query}
use Rattle.paths.specs.Query.{spans}
use Rattle.paths.specs.Chosen.{Chosen}

-- a list of numbers, one for each element, by its places
pub by_places : (f : ℕ → ℕ) (c : ℕ → ℕ) (ts : List ℕ) → ((k : ℕ) → k < length ts → c k ≡ f (get_or ts k 0)) → map c (below (length ts)) ≡ map f ts
by_places f c ts e =
    let n : length (map c (below (length ts))) ≡ length ts = length-map (below (length ts)) c ∙ length-up_from 0 (length ts) in
    ext_get_or 0 (map c (below (length ts))) (map f ts) (n ∙ sym (length-map ts f))
    (λ k l. get_or-map-below c (length ts) k 0 (omega arith) ∙ e k (omega arith) ∙ sym (get_or-map f ts k 0 0 (omega arith)))

-- ---- the terms of an opened archive

module _ (q : Query) where
  abbrev bytes : List ℕ
  bytes = q.archive.bytes.now

  abbrev l : Layout
  l = q.archive.layout

  abbrev o : Opened bytes l
  o = q.archive.opened

  abbrev ts : List ℕ
  ts = q.terms.now

  abbrev a : Chosen l.terms ts
  a = q.chosen

  abbrev h : ℕ
  h = l.levels.height

  abbrev xs : List ℕ
  xs = entries_in bytes l.levels

  abbrev from : ℕ → ℕ
  from k = term_start (contents bytes) (get_or ts k 0)

  abbrev to : ℕ → ℕ
  to k = term_start (contents bytes) (suc (get_or ts k 0))

  pub term_known : (k : ℕ) → k < length ts → get_or ts k 0 < l.terms
  term_known k m = within_at l.terms ts k a.known m

  from-to : (k : ℕ) → from k ≤ to k
  from-to k = term_start_mono (contents bytes) (get_or ts k 0) (suc (get_or ts k 0)) (omega arith)

  to_le : (k : ℕ) → k < length ts → to k ≤ l.levels.entries
  to_le k m = start_le bytes l o (suc (get_or ts k 0)) (term_known k m)

  -- the root
  pub root-span : (k : ℕ) → k < length ts → spans q 0 0 k ≡ record { start = 0; lo = from k; hi = to k; end = l.levels.entries }
  root-span k m =
      let n = length-entries_in bytes l.levels in
      let t = to_le k m in
      let f = from-to k in
      span-root h xs (from k) (to k) (within_entries_in bytes l.levels) (omega arith) (omega arith)
      ∙ ap (λ (e : ℕ). record { start = 0; lo = from k; hi = to k; end = e }) n

  pub span-order : (j number k : ℕ) → k < length ts → Ordered l.levels.entries (spans q j number k)
  span-order j number k m =
      let n = length-entries_in bytes l.levels in
      let t = to_le k m in
      subst (λ (e : ℕ). Ordered e (spans q j number k)) n (span-ordered h xs (from k) (to k) j number (from-to k) (omega arith))

  pub span-two : (j number k : ℕ) → j < h → number < 2 ^ j
      → halves_of (level_of bytes l.levels j) (spans q j number k) ≡ record { zero = spans q (suc j) (2 * number) k; one = spans q (suc j) (2 * number + 1) k }
  span-two j number k m n =
      let e = length-entries_in bytes l.levels in
      let total = lengths_total bytes l o in
      let first = sum-take_le (contents bytes).lengths (get_or ts k 0) in
      let last = sum-take_le (contents bytes).lengths (suc (get_or ts k 0)) in
      span-halves h xs (from k) (to k) (within_entries_in bytes l.levels) (omega arith) (omega arith) j number m n

  -- the entries in a node
  pub span-entries : (j number k : ℕ) → (spans q j number k).hi - (spans q j number k).lo ≡ count_in (under (contents bytes) (get_or ts k 0)) (node (h - j) number)
  span-entries j number k =
      span-count h xs (from k) (to k) j number (from-to k)
      ∙ ap (λ (ys : List ℕ). count_in (part (from k) (to k) ys) (node (h - j) number)) (entries-are bytes l o)
