-- What the writer's parts write, and the answers of the writer.
use Rattle.std.specs.Prelude.{ℕ, ◌+◌, ◌*◌, ◌^◌, ◌≤◌, ◌<◌, ◌≡◌, List, ◌++◌, length, take, drop, Result}
use Rattle.bits.specs.Bits.{pack, samples_of, row_bytes, sample_count}
use Rattle.model.specs.Lists.{Within}
use Rattle.model.specs.Outcome.{Outcome, answered}
use Rattle.model.specs.Rows.{row}
use Rattle.model.specs.Format.{Library, sizes_of, archive_length, encode, archive_of, WriteResult}
use Rattle.wavelet.specs.declared.Levels.{Levels}
use Rattle.wavelet.specs.Levels.{samples_in, row_in}
use Rattle.archive.specs.declared.Layout.{Layout}
use Rattle.archive.specs.Layout.{layout_of}
use Rattle.refusals.specs.declared.Refusal.{Refusal}
use Rattle.refusals.specs.Refusals.{outcome_by}

-- a list that is written into another from place k on; the rest is untouched
abbrev pub overwrite_at : ℕ → List ℕ → List ℕ → List ℕ
overwrite_at k new old = take k old ++ new ++ drop (k + length new) old

-- entries whose levels fit into the target
pub record Room (xs : List ℕ) (t : Levels) (target : List ℕ) : Type 0 where
  pub count : length xs ≡ t.entries
  pub few : t.entries ≤ 65535
  pub short : t.height ≤ 12
  pub within : Within (2 ^ t.height) xs
  pub near : t.samples ≤ 65536
  pub rows_is : t.rows ≡ t.samples + t.height * (4 * sample_count t.entries)
  pub fits : t.rows + t.height * row_bytes t.entries ≤ length target

-- row j of the entries and its samples, written into the target
abbrev pub with_level : List ℕ → Levels → ℕ → List ℕ → List ℕ
with_level xs t j target =
    overwrite_at (t.rows + j * row_bytes t.entries) (pack (row t.height j xs))
    (overwrite_at (t.samples + j * (4 * sample_count t.entries)) (samples_of (row t.height j xs)) target)

-- the first m levels of the entries are written, and what stands before and behind the levels is untouched
pub record Leveled (xs : List ℕ) (t : Levels) (m : ℕ) (before after : List ℕ) : Type 0 where
  pub samples : (j : ℕ) → j < m → samples_in after t j ≡ samples_of (row t.height j xs)
  pub rows : (j : ℕ) → j < m → row_in after t j ≡ pack (row t.height j xs)
  pub front : take t.samples after ≡ take t.samples before
  pub back : drop (t.rows + t.height * row_bytes t.entries) after ≡ drop (t.rows + t.height * row_bytes t.entries) before
  pub size : length after ≡ length before

-- a library that may be written, its layout, and a target that is long enough
pub record Writable (lib : Library) (l : Layout) (target : List ℕ) : Type 0 where
  pub valid : archive_of lib ≡ answered (encode lib)
  pub shape : l ≡ layout_of (sizes_of lib)
  pub fits : archive_length (sizes_of lib) ≤ length target

-- the length of the archive, or the number of a refusal
abbrev pub written_of : Result ℕ Refusal → Outcome ℕ
written_of = outcome_by (λ n. n)

-- the answer, with the final content of the target
abbrev pub written_is : Result ℕ Refusal → List ℕ → WriteResult
written_is r target = record { outcome = written_of r; target = target }
