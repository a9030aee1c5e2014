-- The walk that counts the different documents of a range.
use Rattle.std.specs.Prelude.{ℕ, zero, suc, ◌+◌, ◌-◌, List, ltb}
use Rattle.bits.specs.Sequences.{bit, rank}
use Rattle.model.specs.Walk.{zeros_in}
use Rattle.wavelet.specs.declared.Span.{Span}
use Rattle.wavelet.specs.Spans.{halves_of}

-- the leaves with an entry of the range, under a node of level j that is n levels above them
abbrev pub distinct_from : (ℕ → List ℕ) → ℕ → ℕ → Span → ℕ
distinct_from rows zero j s = bit (ltb 0 (s.hi - s.lo))
distinct_from rows (suc n) j s = distinct_from rows n (suc j) (halves_of (rows j) s).zero + distinct_from rows n (suc j) (halves_of (rows j) s).one

-- in the last row: one for the zeros of a range, one for its ones
abbrev pub of_two : List ℕ → ℕ → ℕ → ℕ
of_two bits lo hi = bit (ltb 0 (zeros_in bits lo hi)) + bit (ltb 0 (rank 1 bits hi - rank 1 bits lo))
