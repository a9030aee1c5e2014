-- What is known of levels that are stored: where their rows end, and that their bits are the rows of their entries.
use Prim.Native.Nat.{ℕ, ◌+◌, ◌*◌, ◌^◌, ◌≤◌, ◌<◌}
use native.Mathlib.Omega.{arith}
use native.Mathlib.Nat.{mul-le-mul}
use mathlib.Core.Path.{◌≡◌}
use mathlib.Core.List.{List}
use lib.ListN.{length, drop, length-drop}
use lib.Seq.{length-take-le}
use Rattle.bits.specs.Bits.{bits_of, row_bytes, sample_count}
use Rattle.bits.specs.Rows.{Sampled}
use Rattle.model.specs.Lists.{Within}
use Rattle.model.specs.Rows.{decode}
use Rattle.model.proofs.Wavelet.Rows.{RowsOf}
use Rattle.model.proofs.Wavelet.Decode.{decoded_bits}
use Rattle.wavelet.specs.declared.Levels.{Levels}
use Rattle.wavelet.specs.Levels.{samples_in, row_in, entries_in, level_of, Stored}
use Rattle.model.proofs.Sums.{chunk_end}

module _ (bytes : List ℕ) (t : Levels) (s : Stored bytes t) (j : ℕ) (l : j < t.height) where
  pub samples_end : t.samples + j * (4 * sample_count t.entries) + 4 * sample_count t.entries ≤ length bytes
  samples_end = omega (arith, chunk_end (4 * sample_count t.entries) j t.height l, s.samples_fit)

  pub row-end : t.rows + j * row_bytes t.entries + row_bytes t.entries ≤ length bytes
  row-end = omega (arith, chunk_end (row_bytes t.entries) j t.height l, s.rows_fit)

  -- products of the code
  pub samples_before : j * (4 * sample_count t.entries) ≤ 12 * 512
  samples_before =
      let few = s.few in
      let low = s.low in
      let a : j ≤ 12 = omega arith in
      let b : 4 * sample_count t.entries ≤ 512 = omega arith in
      mul-le-mul a b

  pub rows_before : j * row_bytes t.entries ≤ 12 * 8192
  rows_before =
      let few = s.few in
      let low = s.low in
      let a : j ≤ 12 = omega arith in
      let b : row_bytes t.entries ≤ 8192 = omega arith in
      mul-le-mul a b

  pub length-samples_in : length (samples_in bytes t j) ≡ 4 * sample_count t.entries
  length-samples_in =
      let w = 4 * sample_count t.entries in
      length-take-le w (drop (t.samples + j * w) bytes) (rw (length-drop (t.samples + j * w) bytes) (omega (arith, samples_end)))

  pub length-row_in : length (row_in bytes t j) ≡ row_bytes t.entries
  length-row_in =
      let w = row_bytes t.entries in
      length-take-le w (drop (t.rows + j * w) bytes) (rw (length-drop (t.rows + j * w) bytes) (omega (arith, row-end)))

  -- what bit_rows asks for
  pub sampled : Sampled t.entries (samples_in bytes t j) (row_in bytes t j)
  sampled = record {
    sized = record {
      small = let few = s.few in omega arith;
      bytes = omega (arith, length-row_in);
      counts = omega (arith, length-samples_in);
    };
    right = s.right j l;
  }

module _ (bytes : List ℕ) (t : Levels) where
  entries_decoded : RowsOf t.height t.entries (decode t.height t.entries (λ j. bits_of t.entries (row_in bytes t j))) (λ j. bits_of t.entries (row_in bytes t j))
  entries_decoded = decoded_bits t.height t.entries (row_in bytes t)

  pub length-entries_in : length (entries_in bytes t) ≡ t.entries
  unfolding entries_in
  length-entries_in = entries_decoded.size

  pub within_entries_in : Within (2 ^ t.height) (entries_in bytes t)
  unfolding entries_in
  within_entries_in = entries_decoded.entries

  -- the bits of a level are those of its row
  pub level_is : (j : ℕ) → j < t.height → level_of bytes t j ≡ bits_of t.entries (row_in bytes t j)
  unfolding entries_in
  level_is j l = entries_decoded.rowwise j l
