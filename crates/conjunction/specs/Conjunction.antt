-- The next document that several terms have in common.
use Rattle.std.specs.Prelude.{ℕ, ◌-◌, ◌^◌, List, [], ◌∷◌, Option, Some, None, cond, ltb}
use Rattle.bits.specs.Sequences.{all, up_from}
use Rattle.bits.specs.Bits.{sum}
use Rattle.model.specs.Lists.{keep}
use Rattle.conjunction.specs.declared.common.Common.{Common}

-- the sum of some counts; 0 where one of them is 0
abbrev pub common_count : List ℕ → ℕ
common_count counts = cond (all (ltb 0) counts) (sum counts) 0

-- the next-document answer (next-sheet answer): a document with the sum of its counts, or none
pub data NextDocument : Type 0 where
  next_is : ℕ → ℕ → NextDocument
  no_further : NextDocument

-- document 01's values for each case of the code's answer
abbrev pub next_of : Option Common → NextDocument
next_of (Some c) = next_is c.document c.count
next_of None = no_further

-- the first of some documents, with the sum of its counts
abbrev pub first_with : (ℕ → List ℕ) → List ℕ → NextDocument
first_with counts [] = no_further
first_with counts (d ∷ ds) = next_is d (sum (counts d))

-- by a document's counts, one for each term: the first number from v up to but without 2 ^ h that has an entry under each of them
abbrev pub next_common : (ℕ → List ℕ) → ℕ → ℕ → NextDocument
next_common counts h v = first_with counts (keep (λ d. all (ltb 0) (counts d)) (up_from v (2 ^ h - v)))
