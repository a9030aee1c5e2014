-- What the code that halves a node of a tree knows of its calls: on from a mapped place, where the halves meet, and the halves that it makes.
use Prim.Native.Nat.{ℕ, ◌+◌, ◌≤◌, ◌<◌}
use native.Mathlib.Nat.{le_trans}
use native.Mathlib.Omega.{arith}
use mathlib.Core.Path.{◌≡◌}
use mathlib.Core.List.{List}
use Rattle.bits.specs.Sequences.{rank}
use Rattle.wavelet.specs.declared.Span.{Span}
use Rattle.wavelet.specs.declared.Mapped.{Mapped}
use Rattle.wavelet.specs.declared.Halves.{Halves}
use Rattle.wavelet.specs.declared.tree.Tree.{Tree}
use Rattle.wavelet.specs.Levels.{level_of}
use Rattle.wavelet.specs.Spans.{Ordered, Maps, halves_at, halves_of, ranked_of}
use Rattle.wavelet.proofs.Steps.{Level, level-of, maps_on, maps_zeros, maps_middle, places_fit, halves-at, halves-made}

module _ (tree : Tree) (j : ℕ) (lj : j < tree.levels.height) (s : Span) (o : Ordered tree.levels.entries s) where
  abbrev n : ℕ
  n = tree.levels.entries

  abbrev bits : List ℕ
  bits = level_of tree.bytes.now tree.levels j

  v : Level n bits
  v = level-of tree.bytes.now tree.levels j lj

  start_hi : s.start ≤ s.hi
  start_hi = le_trans o.from o.range

  start-end : s.start ≤ s.end
  start-end = le_trans start_hi o.to

  -- counted on from the range's ends and from the node's end, by the ones before the node
  module _ {before : ℕ} (known : before ≡ rank 1 bits s.start) where
    pub on_lower : {r : Mapped} → Maps bits s.start s.lo r → (before ≡ rank 1 bits s.start) × (before + r.ones ≡ rank 1 bits s.lo)
    on_lower {r} m = (known, (maps_on bits n v s.start s.lo o.from (le_trans o.range (le_trans o.to o.inside)) r m before known).0)

    pub on_upper : {r : Mapped} → Maps bits s.start s.hi r → (before ≡ rank 1 bits s.start) × (before + r.ones ≡ rank 1 bits s.hi)
    on_upper {r} m = (known, (maps_on bits n v s.start s.hi start_hi (le_trans o.to o.inside) r m before known).0)

    pub on_end : {r : Mapped} → Maps bits s.start s.end r → (before + r.ones ≡ rank 1 bits s.end) × (before + r.ones ≤ n)
    on_end {r} m = maps_on bits n v s.start s.end start-end o.inside r m before known

  -- the node's end, mapped
  module _ {all : Mapped} (a : Maps bits s.start s.end all) where
    pub middle_inside : s.start + all.zeros ≤ n
    middle_inside = omega (arith, maps_zeros bits n v s.start s.end start-end o.inside all a, o.inside)

    pub middle_is : s.start + all.zeros ≡ (ranked_of bits s.start s.end).middle
    middle_is = maps_middle bits n v s o all a

  -- the halves, by the range's ends and where they meet
  module _ {lower upper : Mapped} (l : Maps bits s.start s.lo lower) (u : Maps bits s.start s.hi upper)
      {middle : ℕ} (m : middle ≡ (ranked_of bits s.start s.end).middle) where
    pub halves_fit : Ordered 65535 (halves_at s.start middle s.end lower upper).zero × Ordered 65535 (halves_at s.start middle s.end lower upper).one
    halves_fit = places_fit bits n v s o lower upper l u middle m tree.stored.few

    pub halves_made : {two : Halves} → two ≡ halves_at s.start middle s.end lower upper → (two ≡ halves_of bits s) × Ordered n two.zero × Ordered n two.one
    halves_made {two} e = halves-made bits n v s o lower upper l u middle m two e

    pub halves_are : halves_at s.start middle s.end lower upper ≡ halves_of bits s
    halves_are = halves-at bits n v s o lower upper l u middle m
