-- Reading what was written: opening the archive of a library accepts it with its n, N and W, and it holds the library.
use Prim.Native.Nat.{ℕ, zero, suc, ◌+◌, ◌*◌, ◌<◌}
use native.Mathlib.Omega.{arith}
use native.Mathlib.Nat.{zero-add, add-zero}
use mathlib.Core.Path.{◌≡◌, refl, sym, ap, ap₂, ◌∙◌}
use mathlib.Core.List.{List, [], ◌∷◌, map}
use mathlib.Core.Bool.{true, not}
use lib.ListN.{length, get_or, take, length-map, get_or-append}
use lib.Seq.{ext_get_or, take-length, get_or-append-add}
use lib.Dec.{leb, eqb}
use borrow.Author.Tests.{le-ltb, eq-eqb}
use Rattle.bits.specs.Sequences.{all, up_from, below}
use Rattle.bits.specs.Bits.{sum, bits_of, pack, unused_clear, number_at, samples_of, samples_right}
use Rattle.bits.proofs.Tests.{both_and}
use Rattle.bits.proofs.Tally.{all-up_from, length-up_from, get_or-map-below}
use Rattle.bits.proofs.Pack.{bits_of-pack, unused_pack}
use Rattle.bits.proofs.LittleEndian.{samples_right_lem}
use Rattle.model.specs.Lists.{any, Within}
use Rattle.model.specs.Outcome.{answered, refuse}
use Rattle.model.specs.Rows.{height, row}
use Rattle.model.specs.Format.{Library, Sizes, sizes_of, within_limits, table_offset, archive_length, pairs, header, table_from, encode}
use Rattle.model.specs.Opening.{sizes_at, start_at, length_at, samples_at, row_at, entries_at, contents, pairs_hold, table_holds, opening}
use Rattle.model.proofs.Sums.{sum-take-suc}
use Rattle.model.proofs.Wavelet.Rows.{row_below}
use Rattle.model.proofs.Wavelet.Decode.{decode-of}
use Rattle.model.proofs.Format.Valid.{Valid, of-limits, any_within}
use Rattle.model.proofs.Format.Layout.{table_start, table_length_lem, entries_within, row-size, length-encode, samples_at_lem, row-at, number-at}

-- bits are below 2 wherever one looks
bits_small : (bits : List ℕ) → Within 2 bits → (i : ℕ) → get_or bits i 0 < 2
bits_small [] w i = omega arith
bits_small (b ∷ bits) w zero = w.0
bits_small (b ∷ bits) w (suc i) = bits_small bits w.1 i

module _ (lib : Library) (v : Valid lib) where
  abbrev s : Sizes
  s = sizes_of lib

  abbrev h : ℕ
  h = height lib.documents

  abbrev bytes : List ℕ
  bytes = encode lib

  -- ---- the header and the term table

  sizes_back : sizes_at bytes ≡ s
  sizes_back =
      let n = number-at lib v 1 (omega arith) in
      let d = number-at lib v 2 (omega arith) in
      let w = number-at lib v 3 (omega arith) in
      λ i. record { entries = n i; documents = d i; terms = w i }

  edition_back : number_at bytes 0 ≡ 1
  edition_back = number-at lib v 0 (omega arith)

  pairs_back : pairs_hold bytes s ≡ true
  pairs_back =
      all-up_from (λ i. eqb (number_at bytes (16 + 4 * i)) (get_or (pairs s) i 0)) 0 6
      (λ i a b.
      let e : 16 + 4 * i ≡ 4 * suc (suc (suc (suc i))) = omega arith in
      eq-eqb (number_at bytes (16 + 4 * i)) (get_or (pairs s) i 0)
      (ap (number_at bytes) e ∙ number-at lib v (suc (suc (suc (suc i)))) (omega arith) ∙ get_or-append (pairs s) (table_from 0 lib.lengths) 0 i (omega arith)))

  -- a number of the term table
  table_number : (i : ℕ) → i < 2 * length lib.lengths → number_at bytes (table_offset + 4 * i) ≡ get_or (table_from 0 lib.lengths) i 0
  table_number i l =
      let e : table_offset + 4 * i ≡ 4 * (10 + i) = omega arith in
      ap (number_at bytes) e ∙ number-at lib v (10 + i) (omega arith) ∙ get_or-append-add (header s) (table_from 0 lib.lengths) i 0

  start_back : (t : ℕ) → t < length lib.lengths → start_at bytes t ≡ sum (take t lib.lengths)
  start_back t l =
      let e : table_offset + 8 * t ≡ table_offset + 4 * (2 * t) = omega arith in
      ap (number_at bytes) e ∙ table_number (2 * t) (omega arith) ∙ table_start 0 lib.lengths t l ∙ zero-add (sum (take t lib.lengths))

  length_back : (t : ℕ) → t < length lib.lengths → length_at bytes t ≡ get_or lib.lengths t 0
  length_back t l =
      let e : table_offset + 8 * t + 4 ≡ table_offset + 4 * (2 * t + 1) = omega arith in
      ap (number_at bytes) e ∙ table_number (2 * t + 1) (omega arith) ∙ table_length_lem 0 lib.lengths t l

  table_back : table_holds bytes (length lib.entries) 0 (below (length lib.lengths)) ≡ true
  table_back = go 0 (length lib.lengths) (omega arith)
    where
      go : (t m : ℕ) → t + m ≡ length lib.lengths → table_holds bytes (length lib.entries) (sum (take t lib.lengths)) (up_from t m) ≡ true
      go t zero e =
          let all_of : take t lib.lengths ≡ lib.lengths = ap (λ (n : ℕ). take n lib.lengths) (sym (add-zero t) ∙ e) ∙ take-length lib.lengths in
          eq-eqb (sum (take t lib.lengths)) (length lib.entries) (ap sum all_of ∙ v.total)
      go t (suc m) e =
          let a = start_back t (omega arith) in
          let b : start_at bytes t + length_at bytes t ≡ sum (take (suc t) lib.lengths) = omega (arith, a, length_back t (omega arith), sum-take-suc lib.lengths t (omega arith)) in
          both_and (eqb (start_at bytes t) (sum (take t lib.lengths))) (table_holds bytes (length lib.entries) (start_at bytes t + length_at bytes t) (up_from (suc t) m))
          (eq-eqb (start_at bytes t) (sum (take t lib.lengths)) a)
          (ap (λ (x : ℕ). table_holds bytes (length lib.entries) x (up_from (suc t) m)) b ∙ go (suc t) m (omega arith))

  -- ---- samples, rows and entries

  small : (j i : ℕ) → get_or (row h j lib.entries) i 0 < 2
  small j = bits_small (row h j lib.entries) (row_below h j lib.entries)

  bits_back : (j : ℕ) → j < h → bits_of (length lib.entries) (row_at bytes s j) ≡ row h j lib.entries
  bits_back j l =
      ap (bits_of (length lib.entries)) (row-at lib v j l)
      ∙ ap (λ (n : ℕ). bits_of n (pack (row h j lib.entries))) (sym (row-size lib v j l))
      ∙ bits_of-pack (row h j lib.entries) (small j)

  samples_back : all (λ j. samples_right (length lib.entries) (samples_at bytes s j) (row_at bytes s j)) (below h) ≡ true
  samples_back =
      all-up_from (λ j. samples_right (length lib.entries) (samples_at bytes s j) (row_at bytes s j)) 0 h
      (λ j a b.
      let l : j < h = omega arith in
      ap (λ (x : List ℕ). samples_right (length lib.entries) x (row_at bytes s j)) (samples_at_lem lib v j l ∙ ap samples_of (sym (bits_back j l)))
      ∙ samples_right_lem (length lib.entries) (row_at bytes s j) (let e = v.limits.entries in omega arith))

  unused_back : all (λ j. unused_clear (length lib.entries) (row_at bytes s j)) (below h) ≡ true
  unused_back =
      all-up_from (λ j. unused_clear (length lib.entries) (row_at bytes s j)) 0 h
      (λ j a b.
      let l : j < h = omega arith in
      ap₂ unused_clear (sym (row-size lib v j l)) (row-at lib v j l) ∙ unused_pack (row h j lib.entries) (small j))

  entries_back : entries_at bytes s ≡ lib.entries
  unfolding entries_at
  entries_back =
      decode-of (record { entries = entries_within lib v; size = refl; rowwise = λ j l. sym (bits_back j l) })

  -- ---- the whole

  opening-at-sizes : (z : Sizes) → z ≡ s
      → refuse 3 (not (within_limits z))
      (refuse 4 (not (pairs_hold bytes z))
      (refuse 5 (not (eqb (length bytes) (archive_length z)))
      (refuse 6 (not (table_holds bytes z.entries 0 (below z.terms)))
      (refuse 7 (not (all (λ j. samples_right z.entries (samples_at bytes z j) (row_at bytes z j)) (below (height z.documents))))
      (refuse 8 (not (all (λ j. unused_clear z.entries (row_at bytes z j)) (below (height z.documents))))
      (refuse 9 (any (leb z.documents) (entries_at bytes z)) (answered z))))))) ≡ answered s
  opening-at-sizes z e =
      rw (
        e,
        of-limits s v.limits,
        pairs_back,
        eq-eqb (length bytes) (archive_length s) (length-encode lib v),
        table_back,
        samples_back,
        unused_back,
        entries_back,
        any_within lib.documents lib.entries v.within,
      )

  pub opening-encode : opening (encode lib) ≡ answered (sizes_of lib)
  unfolding opening
  opening-encode =
      rw (le-ltb (length bytes) 40 (omega (arith, length-encode lib v)), edition_back) (opening-at-sizes (sizes_at bytes) sizes_back)

  lengths_back : map (length_at bytes) (below (length lib.lengths)) ≡ lib.lengths
  lengths_back =
      let size : length (map (length_at bytes) (below (length lib.lengths))) ≡ length lib.lengths
      = length-map (below (length lib.lengths)) (length_at bytes) ∙ length-up_from 0 (length lib.lengths) in
      ext_get_or 0 (map (length_at bytes) (below (length lib.lengths))) lib.lengths size
      (λ t l. get_or-map-below (length_at bytes) (length lib.lengths) t 0 (omega arith) ∙ length_back t (omega arith))

  pub contents-encode : contents (encode lib) ≡ lib
  contents-encode =
      (λ i. record { documents = (sizes_back i).documents; lengths = map (length_at bytes) (below (sizes_back i).terms); entries = entries_at bytes (sizes_back i) })
      ∙ (λ i. record { documents = lib.documents; lengths = lengths_back i; entries = entries_back i })
