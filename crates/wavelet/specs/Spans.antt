-- Nodes of the wavelet tree with a range in them, and their halves by the steps of document 004 (`model/specs/Halving`, M-103).
use Rattle.std.specs.Prelude.{ℕ, ◌+◌, ◌-◌, ◌≤◌, ◌≡◌, List, cond, length, eqb}
use Rattle.bits.specs.Sequences.{rank}
use Rattle.model.specs.Lists.{part}
use Rattle.model.specs.Walk.{pos}
use Rattle.model.specs.Halving.{Stretch, map_end, steps}
use Rattle.wavelet.specs.declared.Span.{Span}
use Rattle.wavelet.specs.declared.Mapped.{Mapped}
use Rattle.wavelet.specs.declared.Halves.{Halves}
use Rattle.wavelet.specs.declared.Place.{Place}
use Rattle.wavelet.specs.declared.Ranked.{Ranked}

abbrev pub span : ℕ → ℕ → ℕ → ℕ → Span
span start lo hi end = record { start = start; lo = lo; hi = hi; end = end }

-- the places of a node in a level of n bits are in order
pub record Ordered (n : ℕ) (s : Span) : Type 0 where
  pub from : s.start ≤ s.lo
  pub range : s.lo ≤ s.hi
  pub to : s.hi ≤ s.end
  pub inside : s.end ≤ n

-- a place p of the node that starts at `start`, mapped as in the steps, wherever in the level the node ends
pub record Maps (bits : List ℕ) (start p : ℕ) (r : Mapped) : Type 0 where
  pub zeros_are : (end : ℕ) → p ≤ end → end ≤ length bits → r.zeros ≡ (map_end (part start end bits) (p - start)).zeros
  pub ones_are : (end : ℕ) → p ≤ end → end ≤ length bits → r.ones ≡ (map_end (part start end bits) (p - start)).ones

-- the halves of a node from start to end that meet at `middle`, by the mapped ends of a range
abbrev pub halves_at : ℕ → ℕ → ℕ → Mapped → Mapped → Halves
halves_at start middle end lower upper = record {
  zero = span start (start + lower.zeros) (start + upper.zeros) middle;
  one = span middle (middle + lower.ones) (middle + upper.ones) end;
}

-- a node as the steps take it, and as they give it
abbrev pub stretch_of : Span → Stretch
stretch_of s = record { start = s.start; lower = s.lo; upper = s.hi; end = s.end }

abbrev pub span_from : Stretch → Span
span_from v = span v.start v.lower v.upper v.end

-- the halves of a node whose level has the given bits
abbrev pub halves_of : List ℕ → Span → Halves
halves_of bits s =
    let two = steps bits (stretch_of s) in
    record { zero = span_from two.zero_half; one = span_from two.one_half }

-- the half that a bit leads to
abbrev pub half_of : Halves → ℕ → Span
half_of two bit = cond (eqb bit 1) two.one two.zero

-- the node with these bounds, the ones before it, and where its halves meet
abbrev pub ranked_of : List ℕ → ℕ → ℕ → Ranked
ranked_of bits start end =
    let all = map_end (part start end bits) (end - start) in
    record { start = start; end = end; before = rank 1 bits start; middle = start + all.zeros }

-- a range in it
abbrev pub span_in : Ranked → ℕ → ℕ → Span
span_in node lo hi = record { start = node.start; lo = lo; hi = hi; end = node.end }

-- a place in a node, as an empty range
abbrev pub span_at : Place → Span
span_at p = record { start = p.start; lo = p.at; hi = p.at; end = p.end }

-- of entries below 2 ^ h: the node q of depth j, with the range of the entries a up to but without b
abbrev pub span_of : ℕ → List ℕ → ℕ → ℕ → ℕ → ℕ → Span
span_of h xs a b j q = record { start = pos h xs j q 0; lo = pos h xs j q a; hi = pos h xs j q b; end = pos h xs j q (length xs) }
