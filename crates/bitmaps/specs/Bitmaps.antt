-- The documents of a term as words, by the plain list.
use Rattle.std.specs.Prelude.{ℕ, zero, suc, ◌+◌, ◌-◌, ◌*◌, ◌^◌, List, map, Bool}
use Rattle.bits.specs.Sequences.{bit, below}
use Rattle.model.specs.Format.{Library}
use Rattle.model.specs.Boolean.{entered}
use Rattle.bitmaps.specs.Words.{block_height}

-- the word of 2 ^ k documents from `start` on: of the first half, then of the second
abbrev pub block_word : (ℕ → Bool) → ℕ → ℕ → ℕ
block_word in? zero start = bit (in? start)
block_word in? (suc k) start = block_word in? k start + 2 ^ (2 ^ k) * block_word in? k (start + 2 ^ k)

-- block number b of the documents with an entry under a term, in a tree of height h
abbrev pub term_word : Library → ℕ → ℕ → ℕ → ℕ
term_word lib h t b = block_word (λ d. entered lib d t) (block_height h) (2 ^ block_height h * b)

-- all of them
abbrev pub bitmap : Library → ℕ → ℕ → List ℕ
bitmap lib h t = map (term_word lib h t) (below (2 ^ (h - block_height h)))
