-- A library and the one archive of its bytes. Document 01, "The shelf", "Archive bytes" and the writer's refusals.
use Rattle.std.specs.Prelude.{ℕ, ◌+◌, ◌*◌, List, [], ◌∷◌, ◌++◌, map, Bool, not, ◌&&◌, length, leb, ltb, eqb}
use Rattle.bits.specs.Sequences.{below}
use Rattle.bits.specs.Bits.{concat, sum, pack, little_endian, samples_of, sample_count, row_bytes}
use Rattle.model.specs.Lists.{any, overwrite}
use Rattle.model.specs.Outcome.{Outcome, answered, refused, refuse, and_then}
use Rattle.model.specs.Rows.{height, row}

-- the documents (sheets) there are, the number of entries of each term (word), and the list of entries, all of term 0 first
pub record Library : Type 0 where
  pub documents : ℕ
  pub lengths : List ℕ
  pub entries : List ℕ

abbrev pub library : ℕ → List ℕ → List ℕ → Library
library documents lengths entries = record { documents = documents; lengths = lengths; entries = entries }

-- n, N and W
pub record Sizes : Type 0 where
  pub entries : ℕ
  pub documents : ℕ
  pub terms : ℕ

abbrev pub sizes_of : Library → Sizes
sizes_of lib = record { entries = length lib.entries; documents = lib.documents; terms = length lib.lengths }

-- the limits: n 0 to 65,535; N 1 to 4,096; W 1 to 4,096
abbrev pub within_limits : Sizes → Bool
within_limits s = leb s.entries 65535 && (leb 1 s.documents && leb s.documents 4096) && (leb 1 s.terms && leb s.terms 4096)

-- ---- the layout: offsets and lengths in bytes, which follow from n, N and W

abbrev pub table_offset : ℕ
table_offset = 40

module _ (s : Sizes) where
  -- h: how many rows there are
  abbrev pub row_count : ℕ
  row_count = height s.documents

  abbrev pub table_length : ℕ
  table_length = 8 * s.terms

  abbrev pub samples_offset : ℕ
  samples_offset = table_offset + table_length

  abbrev pub samples_length : ℕ
  samples_length = row_count * (4 * sample_count s.entries)

  abbrev pub rows_offset : ℕ
  rows_offset = samples_offset + samples_length

  abbrev pub rows_length : ℕ
  rows_length = row_count * row_bytes s.entries

  abbrev pub archive_length : ℕ
  archive_length = rows_offset + rows_length

  -- the numbers from offset 16: pairs of offset and length
  abbrev pub pairs : List ℕ
  pairs = table_offset ∷ table_length ∷ samples_offset ∷ samples_length ∷ rows_offset ∷ rows_length ∷ []

  -- the numbers from offset 0: the edition, n, N, W, the three pairs
  abbrev pub header : List ℕ
  header = 1 ∷ s.entries ∷ s.documents ∷ s.terms ∷ pairs

-- the term table: each term starts where the one before ends; pairs of offset and length, in entries
abbrev pub table_from : ℕ → List ℕ → List ℕ
table_from start [] = []
table_from start (l ∷ ls) = start ∷ l ∷ table_from (start + l) ls

abbrev pub rows_of : Library → List (List ℕ)
rows_of lib = map (λ j. row (height lib.documents) j lib.entries) (below (height lib.documents))

-- the archive's bytes
unfoldable pub encode : Library → List ℕ
encode lib =
    concat (map little_endian (header (sizes_of lib) ++ table_from 0 lib.lengths))
    ++ concat (map samples_of (rows_of lib))
    ++ concat (map pack (rows_of lib))

-- ---- the writer

-- the archive of a library that may be written: refusals 14 to 16
abbrev pub archive_of : Library → Outcome (List ℕ)
archive_of lib =
    refuse 14 (not (within_limits (sizes_of lib)))
    (refuse 15 (any (leb lib.documents) lib.entries)
    (refuse 16 (not (eqb (sum lib.lengths) (length lib.entries))) (answered (encode lib))))

-- the length answered, and the final content of the target
pub record WriteResult : Type 0 where
  pub outcome : Outcome ℕ
  pub target : List ℕ

-- the archive in the front of the target
abbrev pub written_into : List ℕ → Outcome (List ℕ) → WriteResult
written_into target (answered bytes) = record { outcome = answered (length bytes); target = overwrite bytes target }
written_into target (refused number) = record { outcome = refused number; target = target }

-- refusals 14 to 17, or the length of the archive in the target
abbrev pub write_result : Library → List ℕ → WriteResult
write_result lib target =
    written_into target
    (and_then (archive_of lib) (λ bytes. refuse 17 (ltb (length target) (length bytes)) (answered bytes)))
