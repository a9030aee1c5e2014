-- The words of the nodes of the wavelet tree: a bit for each document under a node, 1 where the range has an entry of it.
use Rattle.std.specs.Prelude.{ℕ, zero, suc, ◌+◌, ◌-◌, ◌*◌, ◌^◌, min, List, [], ◌∷◌, ◌++◌, ltb}
use Rattle.bits.specs.Sequences.{bit, rank}
use Rattle.model.specs.Walk.{zeros_in}
use Rattle.wavelet.specs.declared.Span.{Span}
use Rattle.wavelet.specs.Spans.{halves_of}

-- blocks are nodes of this height: of 64 documents, or the root of a tree that has fewer
abbrev pub block_height : ℕ → ℕ
block_height h = min 6 h

-- of a node of level j, k levels above the leaves: the word of the zero half, then that of the one half
abbrev pub span_word : (ℕ → List ℕ) → ℕ → ℕ → Span → ℕ
span_word rows zero j s = bit (ltb 0 (s.hi - s.lo))
span_word rows (suc k) j s = span_word rows k (suc j) (halves_of (rows j) s).zero + 2 ^ (2 ^ k) * span_word rows k (suc j) (halves_of (rows j) s).one

-- of a node of the last row: one bit for the zeros of a range, one for its ones
abbrev pub last_word : List ℕ → ℕ → ℕ → ℕ
last_word bits lo hi = bit (ltb 0 (zeros_in bits lo hi)) + 2 * bit (ltb 0 (rank 1 bits hi - rank 1 bits lo))

-- the words of the nodes of height k under a node of level j, which are m levels below it
abbrev pub words_from : (ℕ → List ℕ) → ℕ → ℕ → ℕ → Span → List ℕ
words_from rows k zero j s = span_word rows k j s ∷ []
words_from rows k (suc m) j s = words_from rows k m (suc j) (halves_of (rows j) s).zero ++ words_from rows k m (suc j) (halves_of (rows j) s).one
