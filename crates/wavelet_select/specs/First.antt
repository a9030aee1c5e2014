-- The way to the first entry of a value in a range: down by the bits of the value, and from a place in a half to its place in the node.
use Rattle.std.specs.Prelude.{ℕ, zero, suc, ◌-◌, ◌/◌, ◌%◌, ◌^◌, ◌<◌, ◌≡◌, List}
use Rattle.wavelet.specs.declared.Span.{Span}
use Rattle.wavelet.specs.Spans.{halves_of, half_of}
use Rattle.wavelet_select.specs.Places.{up_from_half}

-- by m more rows, the next of them row j: the leaf of v below a node, with the range's places in it
abbrev pub leaf_from : (ℕ → List ℕ) → ℕ → ℕ → ℕ → Span → Span
leaf_from rows v zero j s = s
leaf_from rows v (suc m) j s = leaf_from rows v m (suc j) (half_of (halves_of (rows j) s) (v / 2 ^ m % 2))

-- the range has so many entries v, and one at least
abbrev pub Has : (ℕ → List ℕ) → ℕ → ℕ → ℕ → Span → ℕ → Type 0
Has rows v m j s count = (0 < count) × (count ≡ (leaf_from rows v m j s).hi - (leaf_from rows v m j s).lo)

-- how far behind the range's first place in the node the first of them stands
abbrev pub first_from : (ℕ → List ℕ) → ℕ → ℕ → ℕ → Span → ℕ
first_from rows v zero j s = 0
first_from rows v (suc m) j s =
    up_from_half (rows j) s.lo (v / 2 ^ m % 2) (first_from rows v m (suc j) (half_of (halves_of (rows j) s) (v / 2 ^ m % 2)))
