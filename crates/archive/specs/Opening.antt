-- What the parts of the check on opening come to, and what they take for granted.
use Rattle.std.specs.Prelude.{ℕ, ◌+◌, ◌*◌, ◌^◌, ◌≤◌, ◌<◌, ◌≡◌, List, Bool, not, length, leb, eqb}
use Rattle.bits.specs.Sequences.{all, below}
use Rattle.bits.specs.Bits.{row_bytes, sample_count, samples_right, unused_clear}
use Rattle.model.specs.Outcome.{Outcome, answered, refuse}
use Rattle.model.specs.Lists.{any}
use Rattle.model.specs.Format.{Sizes, archive_length}
use Rattle.model.specs.Opening.{pairs_hold, table_holds}
use Rattle.wavelet.specs.declared.Levels.{Levels}
use Rattle.wavelet.specs.Levels.{samples_in, row_in, entries_in}
use Rattle.archive.specs.declared.Layout.{Layout}
use Rattle.archive.specs.Layout.{sizes_in, Fitting}

-- the bytes have the length that a layout within the limits gives
pub record Laid (bytes : List ℕ) (l : Layout) : Type 0 where
  pub fitting : Fitting l
  pub size : length bytes ≡ archive_length (sizes_in l)

-- levels that lie in the bytes; whether their samples are right is not known
pub record Placed (bytes : List ℕ) (t : Levels) : Type 0 where
  pub few : t.entries < 2 ^ 16
  pub low : t.height ≤ 12
  pub near : t.samples + t.rows < 2 ^ 32
  pub samples_fit : t.samples + t.height * (4 * sample_count t.entries) ≤ length bytes
  pub rows_fit : t.rows + t.height * row_bytes t.entries ≤ length bytes

-- whether the samples of row j are right, and whether its unused bits are 0
abbrev pub sampled_at : List ℕ → Levels → ℕ → Bool
sampled_at bytes t j = samples_right t.entries (samples_in bytes t j) (row_in bytes t j)

abbrev pub clear_at : List ℕ → Levels → ℕ → Bool
clear_at bytes t j = unused_clear t.entries (row_in bytes t j)

-- refusals 7 to 9 of bytes with a layout
abbrev pub levels_outcome : List ℕ → Layout → Outcome Sizes
levels_outcome bytes l =
    refuse 7 (not (all (sampled_at bytes l.levels) (below l.levels.height)))
    (refuse 8 (not (all (clear_at bytes l.levels) (below l.levels.height)))
    (refuse 9 (any (leb l.documents) (entries_in bytes l.levels)) (answered (sizes_in l))))

-- refusals 4 to 9
abbrev pub parts_outcome : List ℕ → Layout → Outcome Sizes
parts_outcome bytes l =
    refuse 4 (not (pairs_hold bytes (sizes_in l)))
    (refuse 5 (not (eqb (length bytes) (archive_length (sizes_in l))))
    (refuse 6 (not (table_holds bytes l.levels.entries 0 (below l.terms))) (levels_outcome bytes l)))
