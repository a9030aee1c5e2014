-- How the greedy search begins: the root waits with the size of the range for its count.
use Prim.Native.Nat.{ℕ, ◌-◌, ◌^◌, ◌<◌}
use native.Mathlib.Omega.{arith}
use native.Mathlib.Nat.{zero-mul, le_refl}
use mathlib.Core.Path.{◌≡◌, sym, ap, ◌∙◌}
use mathlib.Core.List.{[], ◌∷◌, map}
use borrow.Author.Tests.{lt-ltb, le-ltb}
use Rattle.frontier.specs.declared.Record.{Record}
use Rattle.model.specs.TopK.{node, count_in}
use Rattle.model.specs.Frontier.{blocks}
use Rattle.wavelet.specs.declared.Span.{Span}
use Rattle.wavelet.specs.Levels.{entries_in}
use Rattle.wavelet.specs.Spans.{span_of}
use Rattle.wavelet.proofs.Stored.{length-entries_in, within_entries_in}
use Rattle.wavelet.proofs.Spans.{span-root}
use Rattle.moves.specs.Ground.{record_in, root_waits}
use Rattle.search.specs.declared.Search.{Search}
use Rattle.search.specs.Sought.{range_of}
use Rattle.greedy.specs.Records.{packed}
use Rattle.greedy.specs.Grounds.{span_at, ground_of}
use Rattle.greedy.proofs.Grounds.{inside}
use Rattle.greedy.proofs.Records.{record_is}

module _ (s : Search) where
  abbrev h : ℕ
  h = s.tree.levels.height

  abbrev whole : Span
  whole = record { start = 0; lo = s.a; hi = s.b; end = s.tree.levels.entries }

  root_record : packed 0 0 whole ≡ record_in (ground_of s) (node h 0)
  root_record =
      let xs = entries_in s.tree.bytes.now s.tree.levels in
      let d : h - h ≡ 0 = omega arith in
      let o = s.searchable.ordered in
      let e : span_at s (node h 0) ≡ whole =
      ap (λ (j : ℕ). span_of h xs s.a s.b j 0) d
      ∙ span-root h xs s.a s.b (within_entries_in s.tree.bytes.now s.tree.levels) (let i = inside s in omega arith) (inside s)
      ∙ ap (λ (n : ℕ). record { start = 0; lo = s.a; hi = s.b; end = n }) (length-entries_in s.tree.bytes.now s.tree.levels) in
      sym (λ i. packed (zero-mul (2 ^ h) i) (d i) (e i)) ∙ record_is s h 0 (le_refl h)

  root-count : count_in (range_of s) (node h 0) ≡ s.b - s.a
  unfolding packed
  root-count = sym (ap (λ (x : Record). x.first) root_record)

  pub root-empty : s.a ≡ s.b → [] ≡ map (record_in (ground_of s)) (blocks (root_waits (ground_of s)))
  root-empty e = rw (le-ltb 0 (count_in (range_of s) (node h 0)) (omega (arith, root-count)))

  pub root_waits_lem : s.a < s.b → packed 0 0 whole ∷ [] ≡ map (record_in (ground_of s)) (blocks (root_waits (ground_of s)))
  root_waits_lem l = rw (lt-ltb 0 (count_in (range_of s) (node h 0)) (omega (arith, root-count))) (ap (λ (x : Record). x ∷ []) root_record)
