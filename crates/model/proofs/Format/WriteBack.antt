-- Writing what was read: what an accepted archive holds is a library whose archive has the same bytes.
use Prim.Native.Nat.{ℕ, zero, suc, ◌+◌, ◌*◌, ◌≤◌, ◌<◌}
use native.Mathlib.Omega.{arith}
use mathlib.Core.Path.{◌≡◌, refl, sym, ap, ap₂, ◌∙◌, subst}
use mathlib.Core.List.{List, [], ◌∷◌, ◌++◌, map, append_assoc}
use mathlib.Core.Bool.{true, not}
use lib.ListN.{length, get_or, take, drop, length-map, length-drop}
use lib.Seq.{take_all, take-add, drop-drop, length-take-le, get_or-drop}
use lib.Dec.{leb, ltb, eqb}
use borrow.Author.Tests.{eqb-true, not-false}
use Rattle.bits.specs.Sequences.{all, up_from, below}
use Rattle.bits.specs.Bits.{concat, sum, bits_of, pack, little_endian, unused_clear, number_at, samples_of, samples_right, sample_count, row_bytes}
use Rattle.bits.proofs.Tests.{and_both}
use Rattle.bits.proofs.Tally.{all-up_from-at, length-up_from}
use Rattle.bits.proofs.Chunks.{concat_chunks, concat-below}
use Rattle.bits.proofs.Pack.{pack-bits_of}
use Rattle.bits.proofs.LittleEndian.{little_number_at, numbers-at, samples_are}
use Rattle.model.specs.Lists.{any, Within}
use Rattle.model.specs.Outcome.{Outcome, answered, refuse}
use Rattle.model.specs.Rows.{row, decode}
use Rattle.model.specs.Format.{Library, Sizes, sizes_of, within_limits, table_offset, row_count, samples_offset, samples_length, rows_offset, rows_length, archive_length, pairs, header, table_from, encode, archive_of}
use Rattle.model.specs.Opening.{sizes_at, start_at, length_at, samples_at, row_at, entries_at, contents, pairs_hold, table_holds, opening}
use Rattle.model.proofs.Lists.{map-append, concat-append}
use Rattle.model.proofs.Wavelet.Rows.{RowsOf}
use Rattle.model.proofs.Wavelet.Decode.{decoded_bits}
use Rattle.model.proofs.Format.Valid.{Limits, Valid, limits_of, within_any, refuse_answered, archive_valid}
use Rattle.model.proofs.Format.Layout.{encode_parts}
use Rattle.model.proofs.Sums.{chunk_end}

-- ---- what acceptance says

pub record Accepted (bytes : List ℕ) : Type 0 where
  pub edition : number_at bytes 0 ≡ 1
  pub limits : Limits (sizes_at bytes)
  pub layout : pairs_hold bytes (sizes_at bytes) ≡ true
  pub size : length bytes ≡ archive_length (sizes_at bytes)
  pub table : table_holds bytes (sizes_at bytes).entries 0 (below (sizes_at bytes).terms) ≡ true
  pub samples : (j : ℕ) → j < row_count (sizes_at bytes)
      → samples_right (sizes_at bytes).entries (samples_at bytes (sizes_at bytes) j) (row_at bytes (sizes_at bytes) j) ≡ true
  pub unused : (j : ℕ) → j < row_count (sizes_at bytes) → unused_clear (sizes_at bytes).entries (row_at bytes (sizes_at bytes) j) ≡ true
  pub within : Within (sizes_at bytes).documents (entries_at bytes (sizes_at bytes))

pub accepted : (bytes : List ℕ) (s : Sizes) → opening bytes ≡ answered s → Accepted bytes × (sizes_at bytes ≡ s)
unfolding opening
accepted bytes s e =
    let z = sizes_at bytes in
    let c7 = all (λ j. samples_right z.entries (samples_at bytes z j) (row_at bytes z j)) (below (row_count z)) in
    let c8 = all (λ j. unused_clear z.entries (row_at bytes z j)) (below (row_count z)) in
    let o9 : Outcome Sizes = refuse 9 (any (leb z.documents) (entries_at bytes z)) (answered z) in
    let o8 : Outcome Sizes = refuse 8 (not c8) o9 in
    let o7 : Outcome Sizes = refuse 7 (not c7) o8 in
    let o6 : Outcome Sizes = refuse 6 (not (table_holds bytes z.entries 0 (below z.terms))) o7 in
    let o5 : Outcome Sizes = refuse 5 (not (eqb (length bytes) (archive_length z))) o6 in
    let o4 : Outcome Sizes = refuse 4 (not (pairs_hold bytes z)) o5 in
    let o3 : Outcome Sizes = refuse 3 (not (within_limits z)) o4 in
    let o2 : Outcome Sizes = refuse 2 (not (eqb (number_at bytes 0) 1)) o3 in
    let r1 = refuse_answered 1 (ltb (length bytes) 40) o2 s e in
    let r2 = refuse_answered 2 (not (eqb (number_at bytes 0) 1)) o3 s r1.1 in
    let r3 = refuse_answered 3 (not (within_limits z)) o4 s r2.1 in
    let r4 = refuse_answered 4 (not (pairs_hold bytes z)) o5 s r3.1 in
    let r5 = refuse_answered 5 (not (eqb (length bytes) (archive_length z))) o6 s r4.1 in
    let r6 = refuse_answered 6 (not (table_holds bytes z.entries 0 (below z.terms))) o7 s r5.1 in
    let r7 = refuse_answered 7 (not c7) o8 s r6.1 in
    let r8 = refuse_answered 8 (not c8) o9 s r7.1 in
    let r9 = refuse_answered 9 (any (leb z.documents) (entries_at bytes z)) (answered z) s r8.1 in
    let same = r9.1 in (
      record {
        edition = eqb-true (number_at bytes 0) 1 (not-false (eqb (number_at bytes 0) 1) r2.0);
        limits = limits_of z (not-false (within_limits z) r3.0);
        layout = not-false (pairs_hold bytes z) r4.0;
        size = eqb-true (length bytes) (archive_length z) (not-false (eqb (length bytes) (archive_length z)) r5.0);
        table = not-false (table_holds bytes z.entries 0 (below z.terms)) r6.0;
        samples =
            λ j l.
            all-up_from-at (λ j. samples_right z.entries (samples_at bytes z j) (row_at bytes z j)) 0 (row_count z) (not-false c7 r7.0) j (omega arith) (omega arith);
        unused = λ j l. all-up_from-at (λ j. unused_clear z.entries (row_at bytes z j)) 0 (row_count z) (not-false c8 r8.0) j (omega arith) (omega arith);
        within = within_any z.documents (entries_at bytes z) r9.0;
      },
      cc,
    )

-- ---- parts of bytes

small-take : (w : ℕ) (bytes : List ℕ) → ((i : ℕ) → get_or bytes i 0 < 256) → (i : ℕ) → get_or (take w bytes) i 0 < 256
small-take zero bytes small i = omega arith
small-take (suc w) [] small i = omega arith
small-take (suc w) (b ∷ bytes) small zero = small 0
small-take (suc w) (b ∷ bytes) small (suc i) = small-take w bytes (λ k. small (suc k)) i

small-part : (w k : ℕ) (bytes : List ℕ) → ((i : ℕ) → get_or bytes i 0 < 256) → (i : ℕ) → get_or (take w (drop k bytes)) i 0 < 256
small-part w k bytes small i = small-take w (drop k bytes) (λ i. rw (get_or-drop k bytes i 0) (small (k + i))) i

-- chunk j of h, from place k on, lies in the bytes
chunk_fits : (w k h j : ℕ) (bytes : List ℕ) → k + h * w ≤ length bytes → j < h → length (take w (drop (k + j * w) bytes)) ≡ w
chunk_fits w k h j bytes fits l =
    length-take-le w (drop (k + j * w) bytes) (rw (length-drop (k + j * w) bytes) (omega (arith, chunk_end w j h l)))

module _ (bytes : List ℕ) where
  -- the lengths of terms that follow each other to the end add up
  table_sum : (n start t m : ℕ) → table_holds bytes n start (up_from t m) ≡ true → start + sum (map (length_at bytes) (up_from t m)) ≡ n
  table_sum n start t zero e = omega (arith, eqb-true start n e)
  table_sum n start t (suc m) e =
      let b = and_both (eqb (start_at bytes t) start) (table_holds bytes n (start_at bytes t + length_at bytes t) (up_from (suc t) m)) e in
      omega (arith, eqb-true (start_at bytes t) start b.0, table_sum n (start_at bytes t + length_at bytes t) (suc t) m b.1)

  module _ (acc : Accepted bytes) where
    abbrev z : Sizes
    z = sizes_at bytes

    abbrev n : ℕ
    n = z.entries

    abbrev h : ℕ
    h = row_count z

    abbrev library : Library
    library = contents bytes

    -- ---- the entries and the lengths

    rows_decoded : RowsOf h n (decode h n (λ j. bits_of n (row_at bytes z j))) (λ j. bits_of n (row_at bytes z j))
    rows_decoded = decoded_bits h n (row_at bytes z)

    entries-size : length library.entries ≡ n
    unfolding entries_at
    entries-size = rows_decoded.size

    -- the rows of the entries are the stored ones
    row_stored : (j : ℕ) → j < h → row h j library.entries ≡ bits_of n (row_at bytes z j)
    unfolding entries_at
    row_stored j l = rows_decoded.rowwise j l

    lengths_size : length library.lengths ≡ z.terms
    lengths_size = length-map (below z.terms) (length_at bytes) ∙ length-up_from 0 z.terms

    pub sizes_same : sizes_of library ≡ z
    sizes_same = λ i. record { entries = entries-size i; documents = z.documents; terms = lengths_size i }

    pub contents_valid : Valid library
    contents_valid = record {
      limits = subst Limits (sym sizes_same) acc.limits;
      within = acc.within;
      total = omega (arith, table_sum n 0 0 z.terms acc.table, entries-size);
    }

    module _ (small : (i : ℕ) → get_or bytes i 0 < 256) where
      -- ---- the term table

      table_bytes_lem : (n start t m : ℕ) → table_holds bytes n start (up_from t m) ≡ true → table_offset + 8 * (t + m) ≤ length bytes
          → concat (map little_endian (table_from start (map (length_at bytes) (up_from t m)))) ≡ take (8 * m) (drop (table_offset + 8 * t) bytes)
      table_bytes_lem n start t zero e l = refl
      table_bytes_lem n start t (suc m) e l =
          let b = and_both (eqb (start_at bytes t) start) (table_holds bytes n (start_at bytes t + length_at bytes t) (up_from (suc t) m)) e in
          let same = eqb-true (start_at bytes t) start b.0 in
          let from = table_offset + 8 * t in
          let more : 8 * suc m ≡ 4 + (4 + 8 * m) = omega arith in
          let next : table_offset + 8 * suc t ≡ from + 4 + 4 = omega arith in
          (λ i.
          little_endian (sym same i)
          ++ (little_endian (length_at bytes t) ++ concat (map little_endian (table_from (sym same i + length_at bytes t) (map (length_at bytes) (up_from (suc t) m))))))
          ∙ ap₂ (λ (x y : List ℕ). x ++ y) (little_number_at bytes small from (omega arith))
          (ap₂ (λ (x y : List ℕ). x ++ y) (little_number_at bytes small (from + 4) (omega arith) ∙ ap (take 4) (sym (drop-drop 4 from bytes)))
          (table_bytes_lem n (start_at bytes t + length_at bytes t) (suc t) m b.1 (omega arith)
          ∙ ap (λ (k : ℕ). take (8 * m) (drop k bytes)) next
          ∙ ap (take (8 * m)) (sym (drop-drop 4 (from + 4) bytes) ∙ ap (drop 4) (sym (drop-drop 4 from bytes))))
          ∙ sym (take-add 4 (8 * m) (drop 4 (drop from bytes))))
          ∙ sym (take-add 4 (4 + 8 * m) (drop from bytes)) ∙ ap (λ (k : ℕ). take k (drop from bytes)) (sym more)

      -- ---- the bytes, part by part

      header-bytes : concat (map little_endian (header z)) ≡ take table_offset bytes
      header-bytes = numbers-at bytes small 0 (header z) (let e = acc.size in omega arith) at
        where
          at : (i : ℕ) → i < 10 → get_or (header z) i 0 ≡ number_at bytes (0 + 4 * i)
          at zero l = sym acc.edition
          at (suc zero) l = refl
          at (suc (suc zero)) l = refl
          at (suc (suc (suc zero))) l = refl
          at (suc (suc (suc (suc i)))) l =
              let e : 16 + 4 * i ≡ 0 + 4 * suc (suc (suc (suc i))) = omega arith in
              sym
              (eqb-true (number_at bytes (16 + 4 * i)) (get_or (pairs z) i 0)
              (all-up_from-at (λ i. eqb (number_at bytes (16 + 4 * i)) (get_or (pairs z) i 0)) 0 6 acc.layout i (omega arith) (omega arith)))
              ∙ ap (number_at bytes) e

      numbers-bytes : concat (map little_endian (header z ++ table_from 0 library.lengths)) ≡ take (samples_offset z) bytes
      numbers-bytes =
          ap concat (map-append little_endian (header z) (table_from 0 library.lengths))
          ∙ concat-append (map little_endian (header z)) (map little_endian (table_from 0 library.lengths))
          ∙ ap₂ (λ (x y : List ℕ). x ++ y) header-bytes (table_bytes_lem n 0 0 z.terms acc.table (let e = acc.size in omega arith))
          ∙ sym (take-add table_offset (8 * z.terms) bytes)

      samples_bytes : concat (map (λ j. samples_of (row h j library.entries)) (below h)) ≡ take (samples_length z) (drop (samples_offset z) bytes)
      samples_bytes =
          let w = 4 * sample_count n in
          let e = acc.size in
          concat-below (λ j. samples_of (row h j library.entries)) (samples_at bytes z) h
          (λ j l.
          ap samples_of (row_stored j l)
          ∙ samples_are n (samples_at bytes z j) (row_at bytes z j) (small-part w (samples_offset z + j * w) bytes small)
          (chunk_fits w (samples_offset z) h j bytes (omega arith) l) (acc.samples j l))
          ∙ concat_chunks w bytes (samples_offset z) h

      rows-bytes : concat (map (λ j. pack (row h j library.entries)) (below h)) ≡ take (rows_length z) (drop (rows_offset z) bytes)
      rows-bytes =
          let w = row_bytes n in
          let e = acc.size in
          concat-below (λ j. pack (row h j library.entries)) (row_at bytes z) h
          (λ j l.
          ap pack (row_stored j l)
          ∙ pack-bits_of n (row_at bytes z j) (small-part w (rows_offset z + j * w) bytes small)
          (chunk_fits w (rows_offset z) h j bytes (omega arith) l) (acc.unused j l))
          ∙ concat_chunks w bytes (rows_offset z) h

      pub encode-contents : encode (contents bytes) ≡ bytes
      encode-contents =
          encode_parts library contents_valid
          ∙ ap₂ (λ (x y : List ℕ). x ++ y)
          (ap (λ (y : Sizes). concat (map little_endian (header y ++ table_from 0 library.lengths))) sizes_same ∙ numbers-bytes)
          (ap₂ (λ (x y : List ℕ). x ++ y) samples_bytes rows-bytes)
          ∙ sym (append_assoc (take (samples_offset z) bytes) (take (samples_length z) (drop (samples_offset z) bytes)) (take (rows_length z) (drop (rows_offset z) bytes)))
          ∙ ap (λ (x : List ℕ). x ++ take (rows_length z) (drop (rows_offset z) bytes)) (sym (take-add (samples_offset z) (samples_length z) bytes))
          ∙ sym (take-add (rows_offset z) (rows_length z) bytes)
          ∙ take_all (archive_length z) bytes (let e = acc.size in omega arith)

      pub archive_contents : archive_of (contents bytes) ≡ answered bytes
      archive_contents = archive_valid library contents_valid ∙ ap answered encode-contents
