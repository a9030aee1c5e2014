-- The layout of an archive as a struct, and what it has to do with the bytes.
use Rattle.std.specs.Prelude.{◌≡◌, List, ℕ, ◌≤◌}
use Rattle.model.specs.Outcome.{answered}
use Rattle.model.specs.Format.{Sizes, row_count, samples_offset, rows_offset}
use Rattle.model.specs.Opening.{sizes_at, opening}
use Rattle.archive.specs.declared.Layout.{Layout}

-- n, N and W of a layout
abbrev pub sizes_in : Layout → Sizes
sizes_in l = record { entries = l.levels.entries; documents = l.documents; terms = l.terms }

-- the layout that follows from n, N and W
abbrev pub layout_of : Sizes → Layout
layout_of s = record {
  documents = s.documents;
  terms = s.terms;
  levels = record { entries = s.entries; height = row_count s; samples = samples_offset s; rows = rows_offset s };
}

-- a layout within the limits
pub record Fitting (l : Layout) : Type 0 where
  pub entries : l.levels.entries ≤ 65535
  pub documents : l.documents ≤ 4096
  pub terms : l.terms ≤ 4096
  pub shape : l ≡ layout_of (sizes_in l)

-- the bytes are an archive: the check on opening accepts them
abbrev pub IsArchive : List ℕ → Type 0
IsArchive bytes = opening bytes ≡ answered (sizes_at bytes)

-- the bytes are accepted, and this is their layout
pub record Opened (bytes : List ℕ) (l : Layout) : Type 0 where
  pub accepted : opening bytes ≡ answered (sizes_in l)
  pub shape : l ≡ layout_of (sizes_in l)
