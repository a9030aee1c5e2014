-- Sets of the 64 documents of a block as words of 64 bits.
use Rattle.std.specs.Prelude.{ℕ, ◌+◌, ◌-◌, ◌*◌, ◌/◌, ◌%◌, ◌^◌, List, Bool, get_or, eqb}
use Rattle.std.specs.Int.Bits.{bit_and, bit_or}
use Rattle.model.specs.Reading.{Algebra}

-- document j of the block is in a set
abbrev pub holds : ℕ → ℕ → Bool
holds set j = eqb (set / 2 ^ j % 2) 1

-- what a question comes to in sets, by the set of each term
abbrev pub sets_by : (ℕ → ℕ) → Algebra ℕ
sets_by setOf = record { leaf = setOf; complemented = λ set. 2 ^ 64 - 1 - set; meet = bit_and; join = bit_or }

-- the set of a term in a block: each term has 64 masks, one for a block
abbrev pub set_at : List ℕ → ℕ → ℕ → ℕ
set_at masks block t = get_or masks (64 * t + block) 0
