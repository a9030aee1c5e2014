-- The levels of a wavelet tree in a list of bytes: rows of bits one after the other, and their samples one after the other.
use Rattle.std.specs.Prelude.{ℕ, ◌+◌, ◌*◌, ◌^◌, ◌≤◌, ◌<◌, ◌≡◌, List, true, length, take, drop}
use Rattle.bits.specs.Bits.{bits_of, row_bytes, sample_count, samples_right}
use Rattle.model.specs.Rows.{row, decode}
use Rattle.wavelet.specs.declared.Levels.{Levels}

-- the samples of row j, and row j
abbrev pub samples_in : List ℕ → Levels → ℕ → List ℕ
samples_in bytes t j = take (4 * sample_count t.entries) (drop (t.samples + j * (4 * sample_count t.entries)) bytes)

abbrev pub row_in : List ℕ → Levels → ℕ → List ℕ
row_in bytes t j = take (row_bytes t.entries) (drop (t.rows + j * row_bytes t.entries) bytes)

-- the list of entries that has these rows
unfoldable pub entries_in : List ℕ → Levels → List ℕ
entries_in bytes t = decode t.height t.entries (λ j. bits_of t.entries (row_in bytes t j))

-- the bits of level j
abbrev pub level_of : List ℕ → Levels → ℕ → List ℕ
level_of bytes t j = row t.height j (entries_in bytes t)

-- the levels lie in the bytes, and their samples are right
pub record Stored (bytes : List ℕ) (t : Levels) : Type 0 where
  pub few : t.entries < 2 ^ 16
  pub low : t.height ≤ 12
  pub near : t.samples + t.rows < 2 ^ 32
  pub samples_fit : t.samples + t.height * (4 * sample_count t.entries) ≤ length bytes
  pub rows_fit : t.rows + t.height * row_bytes t.entries ≤ length bytes
  pub right : (j : ℕ) → j < t.height → samples_right t.entries (samples_in bytes t j) (row_in bytes t j) ≡ true
