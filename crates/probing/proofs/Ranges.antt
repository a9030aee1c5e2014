-- The range of a search: its size, the counts in it, what stands at a rank of it, and that the slices lent for it do for probing.
use Prim.Native.Nat.{ℕ, ◌-◌, ◌*◌, ◌^◌, ◌≤◌, ◌<◌, min}
use native.Mathlib.Omega.{arith}
use mathlib.Core.Path.{◌≡◌, sym, ap, ◌∙◌}
use mathlib.Core.List.{List}
use lib.ListN.{length}
use lib.Dec.{eqb}
use Rattle.bits.specs.Sequences.{occurrences}
use Rattle.bits.proofs.Tally.{tally_le_length}
use Rattle.model.specs.Queries.{quantile}
use Rattle.model.proofs.Lists.{length_part, within_part}
use Rattle.model.proofs.Probing.Probed.{quantile_within}
use Rattle.wavelet.specs.declared.Counted.{Counted}
use Rattle.wavelet.specs.Levels.{entries_in}
use Rattle.wavelet.specs.Ranges.{quantile_in}
use Rattle.wavelet.proofs.Stored.{length-entries_in}
use Rattle.search.specs.declared.Search.{Search}
use Rattle.search.specs.Sought.{range_of}
use Rattle.probing.specs.Slices.{Lent}

module _ (s : Search) where
  pub length-range : length (range_of s) ≡ s.b - s.a
  length-range =
      length_part s.a s.b (entries_in s.tree.bytes.now s.tree.levels) (rw (length-entries_in s.tree.bytes.now s.tree.levels) s.searchable.inside)

  pub range_few : s.b - s.a < 2 ^ 16
  range_few = omega (arith, s.searchable.stored.few, s.searchable.inside)

  pub count_few : (d : ℕ) → occurrences d (range_of s) < 2 ^ 16
  count_few d = omega (arith, tally_le_length (eqb d) (range_of s), length-range, range_few)

  pub lent-range : {k : ℕ} {work out : List ℕ} → 0 < k → s.documents ≤ length work → 2 * min k s.documents ≤ length out
      → Lent s.documents k (range_of s) work out
  lent-range some places room = record {
    some = some;
    within = within_part s.documents s.a s.b (entries_in s.tree.bytes.now s.tree.levels) s.searchable.within;
    few = s.searchable.few;
    places = places;
    room = room;
  }

  -- ---- what is found at rank r

  module _ {r : ℕ} (l : r < s.b - s.a) {found : Counted} (e : found ≡ quantile_in (range_of s) r) where
    pub document_is : (found.document ≡ quantile r (range_of s)) × (found.document < s.documents) × (found.document < 4096)
    document_is =
        let is : found.document ≡ quantile r (range_of s) = ap (λ (x : Counted). x.document) e in
        let n = s.searchable.few in
        let w = quantile_within s.documents (range_of s) (within_part s.documents s.a s.b (entries_in s.tree.bytes.now s.tree.levels) s.searchable.within) r (omega (arith, length-range)) in
        (is, omega arith, omega arith)

    pub count_is : (found.count ≡ occurrences found.document (range_of s)) × (found.count < 2 ^ 16)
    count_is =
        let is : found.count ≡ occurrences found.document (range_of s) =
        ap (λ (x : Counted). x.count) e ∙ ap (λ (d : ℕ). occurrences d (range_of s)) (sym document_is.0) in
        (is, omega (arith, count_few found.document))
