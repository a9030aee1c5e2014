-- The check on opening, and what accepted bytes hold. Document 01, "Archive bytes" and the refusals of opening and reader.
use Rattle.std.specs.Prelude.{ℕ, ◌+◌, ◌*◌, List, [], ◌∷◌, map, Bool, not, ◌&&◌, ◌||◌, length, get_or, take, drop, leb, ltb, eqb}
use Rattle.bits.specs.Sequences.{all, below}
use Rattle.bits.specs.Bits.{bits_of, unused_clear, number_at, samples_right, sample_count, row_bytes}
use Rattle.model.specs.Lists.{any, overwrite}
use Rattle.model.specs.Outcome.{Outcome, answered, refused, refuse, and_then}
use Rattle.model.specs.Rows.{decode}
use Rattle.model.specs.Format.{Library, Sizes, within_limits, row_count, table_offset, samples_offset, rows_offset, archive_length, pairs}

-- ---- what stands where

abbrev pub sizes_at : List ℕ → Sizes
sizes_at bytes = record { entries = number_at bytes 4; documents = number_at bytes 8; terms = number_at bytes 12 }

-- the offset and the length of term t, in entries
abbrev pub start_at : List ℕ → ℕ → ℕ
start_at bytes t = number_at bytes (table_offset + 8 * t)

abbrev pub length_at : List ℕ → ℕ → ℕ
length_at bytes t = number_at bytes (table_offset + 8 * t + 4)

module _ (bytes : List ℕ) (s : Sizes) where
  -- the samples of row j
  abbrev pub samples_at : ℕ → List ℕ
  samples_at j = take (4 * sample_count s.entries) (drop (samples_offset s + j * (4 * sample_count s.entries)) bytes)

  -- row j
  abbrev pub row_at : ℕ → List ℕ
  row_at j = take (row_bytes s.entries) (drop (rows_offset s + j * row_bytes s.entries) bytes)

  -- the entries: the list that has these rows
  unfoldable pub entries_at : List ℕ
  entries_at = decode (row_count s) s.entries (λ j. bits_of s.entries (row_at j))

-- what an accepted archive holds
abbrev pub contents : List ℕ → Library
contents bytes =
    let s = sizes_at bytes in
    record { documents = s.documents; lengths = map (length_at bytes) (below s.terms); entries = entries_at bytes s }

-- ---- the check on opening

-- refusal 4: the three pairs are those of the layout
abbrev pub pairs_hold : List ℕ → Sizes → Bool
pairs_hold bytes s = all (λ i. eqb (number_at bytes (16 + 4 * i)) (get_or (pairs s) i 0)) (below 6)

-- refusal 6: the first of these terms starts at the given entry, each other one where the one before ends, and the last ends at n
abbrev pub table_holds : List ℕ → ℕ → ℕ → List ℕ → Bool
table_holds bytes n start [] = eqb start n
table_holds bytes n start (t ∷ ts) = eqb (start_at bytes t) start && table_holds bytes n (start_at bytes t + length_at bytes t) ts

-- refusals 1 to 9, else n, N and W
unfoldable pub opening : List ℕ → Outcome Sizes
opening bytes =
    let s = sizes_at bytes in
    refuse 1 (ltb (length bytes) 40)
    (refuse 2 (not (eqb (number_at bytes 0) 1))
    (refuse 3 (not (within_limits s))
    (refuse 4 (not (pairs_hold bytes s))
    (refuse 5 (not (eqb (length bytes) (archive_length s)))
    (refuse 6 (not (table_holds bytes s.entries 0 (below s.terms)))
    (refuse 7 (not (all (λ j. samples_right s.entries (samples_at bytes s j) (row_at bytes s j)) (below (row_count s))))
    (refuse 8 (not (all (λ j. unused_clear s.entries (row_at bytes s j)) (below (row_count s))))
    (refuse 9 (any (leb s.documents) (entries_at bytes s)) (answered s)))))))))

-- what the questions ask: the library in an archive that is checked first
abbrev pub opened : List ℕ → Outcome Library
opened bytes = and_then (opening bytes) (λ s. answered (contents bytes))

-- ---- the reader

-- n, N and W, and the final content of the two lists
pub record ReadResult : Type 0 where
  pub outcome : Outcome Sizes
  pub entries : List ℕ
  pub lengths : List ℕ

-- the archive's entries and term lengths in the front of the two lists
abbrev pub read_into : List ℕ → List ℕ → List ℕ → Outcome Sizes → ReadResult
read_into bytes entries lengths (answered s) = record {
  outcome = answered s;
  entries = overwrite (contents bytes).entries entries;
  lengths = overwrite (contents bytes).lengths lengths;
}
read_into bytes entries lengths (refused number) = record { outcome = refused number; entries = entries; lengths = lengths }

-- refusals 1 to 9 and 12, or n, N and W
abbrev pub read_result : List ℕ → List ℕ → List ℕ → ReadResult
read_result bytes entries lengths =
    read_into bytes entries lengths
    (and_then (opening bytes)
    (λ s. refuse 12 (ltb (length entries) s.entries || ltb (length lengths) s.terms) (answered s)))
