-- The parts of the archive of a library: how long each is, and what stands where in it.
use Prim.Native.Nat.{ℕ, zero, suc, ◌+◌, ◌*◌, ◌^◌, ◌≤◌, ◌<◌}
use native.Mathlib.Omega.{arith}
use native.Mathlib.Nat.{le_of_lt, mul-le-mul}
use mathlib.Core.Path.{◌≡◌, refl, sym, ap, ap₂, ◌∙◌}
use mathlib.Core.List.{List, [], ◌∷◌, ◌++◌, map, map-map, append_assoc, append-nil}
use lib.ListN.{length, get_or, take, drop, length-append}
use lib.Seq.{drop-append-add}
use Rattle.bits.specs.Sequences.{below}
use Rattle.bits.specs.Bits.{concat, sum, pack, little_endian, number_at, samples_of, sample_count, row_bytes}
use Rattle.bits.proofs.Chunks.{length_chunks, chunk_at}
use Rattle.bits.proofs.Pack.{length-pack}
use Rattle.bits.proofs.LittleEndian.{length-numbers, number_at-numbers, length_samples}
use Rattle.model.specs.Lists.{Within}
use Rattle.model.specs.Rows.{height, row}
use Rattle.model.specs.Format.{Library, Sizes, sizes_of, samples_offset, samples_length, rows_offset, rows_length, archive_length, header, table_from, encode}
use Rattle.model.specs.Opening.{samples_at, row_at}
use Rattle.model.proofs.Lists.{within_at, within_append, within_le}
use Rattle.model.proofs.Height.{le_pow-height, height_le}
use Rattle.model.proofs.Wavelet.Rows.{row-length}
use Rattle.model.proofs.Format.Valid.{Valid}

-- ---- the term table

pub length_table : (start : ℕ) (ls : List ℕ) → length (table_from start ls) ≡ 2 * length ls
length_table start [] = refl
length_table start (l ∷ ls) = omega (arith, length_table (start + l) ls)

-- number 2 * t is where term t starts, the next one how long it is
pub table_start : (start : ℕ) (ls : List ℕ) (t : ℕ) → t < length ls → get_or (table_from start ls) (2 * t) 0 ≡ start + sum (take t ls)
table_start start [] t l = absurd (omega arith)
table_start start (x ∷ ls) zero l = omega arith
table_start start (x ∷ ls) (suc t) l =
    let e : 2 * suc t ≡ suc (suc (2 * t)) = omega arith in
    ap (λ (i : ℕ). get_or (table_from start (x ∷ ls)) i 0) e ∙ table_start (start + x) ls t (omega arith) ∙ omega arith

pub table_length_lem : (start : ℕ) (ls : List ℕ) (t : ℕ) → t < length ls → get_or (table_from start ls) (2 * t + 1) 0 ≡ get_or ls t 0
table_length_lem start [] t l = absurd (omega arith)
table_length_lem start (x ∷ ls) zero l = refl
table_length_lem start (x ∷ ls) (suc t) l =
    let e : 2 * suc t + 1 ≡ suc (suc (2 * t + 1)) = omega arith in
    ap (λ (i : ℕ). get_or (table_from start (x ∷ ls)) i 0) e ∙ table_length_lem (start + x) ls t (omega arith)

table_within : (m start : ℕ) (ls : List ℕ) → start + sum ls < m → Within m (table_from start ls)
table_within m start [] l = tt
table_within m start (x ∷ ls) l = (omega arith, (omega arith, table_within m (start + x) ls (omega arith)))

-- ---- the whole

module _ (lib : Library) (v : Valid lib) where
  abbrev s : Sizes
  s = sizes_of lib

  abbrev h : ℕ
  h = height lib.documents

  abbrev pub numbers : List ℕ
  numbers = header s ++ table_from 0 lib.lengths

  abbrev samples_part : List ℕ
  samples_part = concat (map (λ j. samples_of (row h j lib.entries)) (below h))

  abbrev rows_part : List ℕ
  rows_part = concat (map (λ j. pack (row h j lib.entries)) (below h))

  pub encode_parts : encode lib ≡ concat (map little_endian numbers) ++ (samples_part ++ rows_part)
  unfolding encode
  encode_parts =
      ap₂ (λ (a b : List (List ℕ)). concat (map little_endian numbers) ++ concat a ++ concat b)
      (map-map samples_of (λ j. row h j lib.entries) (below h)) (map-map pack (λ j. row h j lib.entries) (below h))
      ∙ append_assoc (concat (map little_endian numbers)) samples_part rows_part

  pub entries_within : Within (2 ^ h) lib.entries
  entries_within = within_le lib.documents (2 ^ h) (le_pow-height lib.documents) lib.entries v.within

  pub row-size : (j : ℕ) → j < h → length (row h j lib.entries) ≡ length lib.entries
  row-size j l = row-length h j lib.entries (le_of_lt l) entries_within

  pub length-numbers-part : length (concat (map little_endian numbers)) ≡ samples_offset s
  length-numbers-part =
      length-numbers numbers ∙ omega (arith, length-append (header s) (table_from 0 lib.lengths), length_table 0 lib.lengths)

  samples_size : (j : ℕ) → j < h → length (samples_of (row h j lib.entries)) ≡ 4 * sample_count (length lib.entries)
  samples_size j l = length_samples (row h j lib.entries) ∙ ap (λ (n : ℕ). 4 * sample_count n) (row-size j l)

  bytes-size : (j : ℕ) → j < h → length (pack (row h j lib.entries)) ≡ row_bytes (length lib.entries)
  bytes-size j l = length-pack (row h j lib.entries) ∙ ap row_bytes (row-size j l)

  length_samples_part : length samples_part ≡ samples_length s
  length_samples_part = length_chunks (4 * sample_count (length lib.entries)) (λ j. samples_of (row h j lib.entries)) h samples_size

  length-rows-part : length rows_part ≡ rows_length s
  length-rows-part = length_chunks (row_bytes (length lib.entries)) (λ j. pack (row h j lib.entries)) h bytes-size

  pub length-encode : length (encode lib) ≡ archive_length s
  length-encode =
      ap length encode_parts ∙ length-append (concat (map little_endian numbers)) (samples_part ++ rows_part)
      ∙ omega (arith, length-append samples_part rows_part, length-numbers-part, length_samples_part, length-rows-part)

  -- ---- what stands where

  -- the samples of row j
  pub samples_at_lem : (j : ℕ) → j < h → samples_at (encode lib) s j ≡ samples_of (row h j lib.entries)
  samples_at_lem j l =
      let w = 4 * sample_count (length lib.entries) in
      ap₂ (λ (k : ℕ) (b : List ℕ). take w (drop (k + j * w) b)) (sym length-numbers-part) encode_parts
      ∙ ap (take w) (drop-append-add (concat (map little_endian numbers)) (samples_part ++ rows_part) (j * w))
      ∙ chunk_at w (λ j. samples_of (row h j lib.entries)) h samples_size rows_part j l

  -- row j
  pub row-at : (j : ℕ) → j < h → row_at (encode lib) s j ≡ pack (row h j lib.entries)
  row-at j l =
      let w = row_bytes (length lib.entries) in
      let front = concat (map little_endian numbers) ++ samples_part in
      let e : rows_offset s ≡ length front = omega (arith, length-append (concat (map little_endian numbers)) samples_part, length-numbers-part, length_samples_part) in
      ap₂ (λ (k : ℕ) (b : List ℕ). take w (drop (k + j * w) b)) e (encode_parts ∙ sym (append_assoc (concat (map little_endian numbers)) samples_part rows_part))
      ∙ ap (take w) (drop-append-add front rows_part (j * w))
      ∙ ap (λ (b : List ℕ). take w (drop (j * w) b)) (sym (append-nil rows_part))
      ∙ chunk_at w (λ j. pack (row h j lib.entries)) h bytes-size [] j l

  -- the numbers of the header and of the term table
  numbers_within : Within (2 ^ 32) numbers
  numbers_within =
      let lim = v.limits in
      let hl : h ≤ 12 = height_le lib.documents 12 lim.documents in
      let n = length lib.entries in
      let a = lim.entries in
      let b = lim.documents in
      let c = lim.terms in
      let samples : 4 * sample_count n ≤ 512 = omega arith in
      let bytes : row_bytes n ≤ 8192 = omega arith in
      let samples_all : h * (4 * sample_count n) ≤ 12 * 512 = mul-le-mul hl samples in
      let bytes-all : h * row_bytes n ≤ 12 * 8192 = mul-le-mul hl bytes in
      within_append (2 ^ 32) (header s) (table_from 0 lib.lengths) (
        omega arith,
        (omega arith, (omega arith, (omega arith, (omega arith, (omega arith, (omega arith, (omega arith, (omega arith, (omega arith, tt))))))))),
      )
      (table_within (2 ^ 32) 0 lib.lengths (omega (arith, v.total)))

  pub number-at : (i : ℕ) → i < 10 + 2 * length lib.lengths → number_at (encode lib) (4 * i) ≡ get_or numbers i 0
  number-at i l =
      let m : i < length numbers = omega (arith, length-append (header s) (table_from 0 lib.lengths), length_table 0 lib.lengths) in
      ap (λ (b : List ℕ). number_at b (4 * i)) encode_parts
      ∙ number_at-numbers numbers (samples_part ++ rows_part) i m (within_at (2 ^ 32) numbers i numbers_within m)
