-- What the contracts of the code cite beside the definitions of rows: counts below a place, what a row with samples is, what the stores write.
use Rattle.std.specs.Prelude.{◌≡◌, Bool, true, false, List, ◌++◌, ℕ, ◌+◌, ◌-◌, ◌*◌, ◌/◌, ◌%◌, ◌^◌, ◌≤◌, ◌<◌, length, get_or, set, take, drop}
use Rattle.bits.specs.Bits.{bits_of, row_bytes, sample_count, samples_right, little_endian, number_at}
use Rattle.bits.specs.Sequences.{occurrences}

-- how many of the bits below place i are v; at a place of the row this is its rank
unfoldable pub count_below : ℕ → List ℕ → ℕ → ℕ
count_below v row i = occurrences v (bits_of i row)

-- of i bits with n ones, how many are 1 (true) or 0 (false)
abbrev pub of_kind : Bool → ℕ → ℕ → ℕ
of_kind true i n = n
of_kind false i n = i - n

-- eight bytes as a number, low byte first
abbrev pub word_at : List ℕ → ℕ → ℕ
word_at bytes k = number_at bytes k + 2 ^ 32 * number_at bytes (k + 4)

-- slices that hold a row of n bits and its samples
pub record Sized (n : ℕ) (samples row : List ℕ) : Type 0 where
  pub small : n < 2 ^ 32
  pub bytes : row_bytes n ≤ length row
  pub counts : 4 * sample_count n ≤ length samples

-- the same, with the samples right
pub record Sampled (n : ℕ) (samples row : List ℕ) : Type 0 where
  pub sized : Sized n samples row
  pub right : samples_right n samples row ≡ true

-- a row whose bit i was 0, with bit b stored there
abbrev pub with_bit : List ℕ → ℕ → ℕ → List ℕ
with_bit row i b = set row (i / 8) (get_or row (i / 8) 0 + b * 2 ^ (i % 8))

-- bytes with a number of 32 bits stored at an offset
abbrev pub with_number : List ℕ → ℕ → ℕ → List ℕ
with_number bytes k x = take k bytes ++ little_endian x ++ drop (k + 4) bytes
