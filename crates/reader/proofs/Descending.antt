-- Reading: from the keys of a level to those of the next, and from no bits to all.
use Prim.Native.Nat.{ℕ, suc, ◌+◌, ◌*◌, ◌/◌, ◌%◌, ◌^◌, ◌≤◌, ◌<◌}
use mathlib.Core.Path.{◌≡◌, refl, sym, ap, ap₂, ◌∙◌, subst}
use mathlib.Core.List.{List, map}
use native.Mathlib.Nat.{le_of_lt, div-one}
use native.Mathlib.Decide.{ℕ_discrete}
use native.Mathlib.Numerals.{add-one}
use native.Mathlib.Omega.{arith}
use lib.ListN.{length, get_or, set, take, length-map}
use lib.Seq.{get_or-set_same, get_or-set_other, ext_get_or}
use lib.Dec.{ltb, eqb}
use Rattle.bits.specs.Sequences.{below, tally}
use Rattle.bits.specs.Bits.{bit_at}
use Rattle.bits.proofs.Tally.{tally_same, tally-map, tally_le_length, length-up_from, get_or-map-below}
use Rattle.bits.proofs.Bits.{get_or-bits_of}
use Rattle.model.specs.Lists.{Within}
use Rattle.model.specs.Rows.{row}
use Rattle.model.specs.Opening.{length_at}
use Rattle.model.specs.Walk.{pos, key}
use Rattle.model.proofs.Lists.{within_at, map-take, get_or-map}
use Rattle.model.proofs.Wavelet.Groups.{length_groups, pos_lt}
use Rattle.model.proofs.Wavelet.Rows.{key_half, key_lt, key-root, key_leaf, row-length, row-bit, row-pos_lt}
use Rattle.wavelet.specs.declared.Levels.{Levels}
use Rattle.wavelet.specs.Levels.{row_in, entries_in, Stored}
use Rattle.wavelet.proofs.Stored.{length-row_in, length-entries_in, within_entries_in, level_is}
use Rattle.archive.proofs.Bounds.{key-count}
use Rattle.keys.specs.Counters.{Keyed, Zeros, Next}
use Rattle.reader.specs.Reading.{place_of, Descent, Deepened, keys_at}

-- ---- one entry more

-- the counters where the first i keys are counted
abbrev pub Advanced : List ℕ → ℕ → List ℕ → List ℕ → Type 0
Advanced ks i before after = (q : ℕ) → q < length before → get_or after q 0 ≡ get_or before q 0 + tally (λ k. eqb k q) (take i ks)

module _ (ks : List ℕ) (m : ℕ) (bounded : (i : ℕ) → i < length ks → get_or ks i 0 < m) (i : ℕ) (l : i < length ks) where
  pub place-below : place_of ks i < length ks
  place-below =
      omega (
        arith,
        pos_lt (λ k. k) ks (get_or ks i 0) m i (bounded i l) l refl,
        length_groups (λ k. k) ks m,
        tally_le_length (λ k. ltb k m) ks,
      )

  pub place_next : (before after : List ℕ) → m ≤ length before → Next 0 m ks 0 before → Advanced ks i before after → get_or after (get_or ks i 0) 0 ≡ place_of ks i
  place_next before after size places advanced =
      let q = get_or ks i 0 in
      let b = bounded i l in
      omega (
        arith,
        advanced q (omega arith),
        places q b,
        tally_same (λ v. ltb (v / 2 ^ 0) q) (λ v. ltb v q) (λ v. ap (λ (k : ℕ). ltb k q) (div-one v)) ks,
      )

-- the first i keys have their bits
abbrev pub Front : List ℕ → List ℕ → ℕ → List ℕ → Type 0
Front row ks i keys = (r : ℕ) → r < i → get_or keys r 0 ≡ 2 * get_or ks r 0 + bit_at row (place_of ks r)

pub front_more : (row ks keys : List ℕ) (i x : ℕ) → i < length keys → x ≡ 2 * get_or ks i 0 + bit_at row (place_of ks i) → Front row ks i keys
    → Front row ks (i + 1) (set keys i x)
front_more row ks keys i x l e front r m = go (ℕ_discrete r i)
  where
    go : Dec (r ≡ i) → get_or (set keys i x) r 0 ≡ 2 * get_or ks r 0 + bit_at row (place_of ks r)
    go (yes d) = rw d (get_or-set_same keys i x 0 l ∙ e)
    go (no d) = get_or-set_other keys i r x 0 d ∙ front r (omega arith)

-- ---- one level more

module _ (h j : ℕ) (xs : List ℕ) (level : j < h) (within : Within (2 ^ h) xs) where
  abbrev ks : List ℕ
  ks = map (key h j) xs

  ks-size : length ks ≡ length xs
  ks-size = length-map xs (key h j)

  ks-at : (i : ℕ) → i < length xs → get_or ks i 0 ≡ key h j (get_or xs i 0)
  ks-at i l = get_or-map (key h j) xs i 0 0 l

  ks-below : (i : ℕ) → i < length ks → get_or ks i 0 < 2 ^ j
  ks-below i l =
      let m : i < length xs = omega (arith, ks-size) in
      rw (ks-at i m) (key_lt h j (get_or xs i 0) (le_of_lt level) (within_at (2 ^ h) xs i within m))

  module _ (i : ℕ) (l : i < length xs) where
    abbrev x : ℕ
    x = get_or xs i 0

    abbrev q : ℕ
    q = key h j x

    q-below : q < 2 ^ j
    q-below = key_lt h j x (le_of_lt level) (within_at (2 ^ h) xs i within l)

    place_is : place_of ks i ≡ pos h xs j q i
    place_is =
        rw (ks-at i l)
        (ap₂ (λ (a b : ℕ). a + b) (tally-map (λ k. ltb k q) (key h j) xs)
        (ap (tally (λ k. eqb k q)) (map-take (key h j) i xs) ∙ tally-map (λ k. eqb k q) (key h j) (take i xs)))

    place_inside : place_of ks i < length xs
    place_inside = rw place_is (omega (arith, row-pos_lt h j xs q i q-below l refl, row-length h j xs (le_of_lt level) within))

    deeper : 2 * get_or ks i 0 + get_or (row h j xs) (place_of ks i) 0 ≡ key h (suc j) x
    deeper =
        let a = ks-at i l in
        let b : get_or (row h j xs) (place_of ks i) 0 ≡ key h (suc j) x % 2 = ap (λ (p : ℕ). get_or (row h j xs) p 0) place_is ∙ row-bit h j xs level q q-below i l refl in
        let d = key_half h j x level in
        omega arith

  deepened : (bytes after : List ℕ) → ((p : ℕ) → p < length xs → bit_at bytes p ≡ get_or (row h j xs) p 0) → length after ≡ length ks
      → Deepened bytes ks after → after ≡ map (key h (j + 1)) xs
  deepened bytes after bits size deep =
      rw (add-one j)
      (ext_get_or 0 after (map (key h (suc j)) xs) (size ∙ ks-size ∙ sym (length-map xs (key h (suc j))))
      (λ i l.
      let m : i < length xs = omega (arith, ks-size) in
      deep i (omega arith) ∙ ap (λ (b : ℕ). 2 * get_or ks i 0 + b) (bits (place_of ks i) (place_inside i m)) ∙ deeper i m
      ∙ sym (get_or-map (key h (suc j)) xs i 0 0 m)))

-- no bits and all bits
pub keys_root : (h : ℕ) (xs keys : List ℕ) → Within (2 ^ h) xs → length keys ≡ length xs → Zeros keys → keys ≡ map (key h 0) xs
keys_root h xs keys within size zeros =
    ext_get_or 0 keys (map (key h 0) xs) (size ∙ sym (length-map xs (key h 0)))
    (λ i l.
    let m : i < length xs = omega arith in
    zeros i ∙ sym (get_or-map (key h 0) xs i 0 0 m ∙ key-root h (get_or xs i 0) (within_at (2 ^ h) xs i within m)))

pub keys_leaf : (h : ℕ) (xs : List ℕ) → map (key h h) xs ≡ xs
keys_leaf h xs =
    ext_get_or 0 (map (key h h) xs) xs (length-map xs (key h h))
    (λ i l. get_or-map (key h h) xs i 0 0 (omega (arith, length-map xs (key h h))) ∙ key_leaf h (get_or xs i 0))

-- ---- the rows in the bytes

module _ (bytes : List ℕ) (t : Levels) (r : Stored bytes t) (j : ℕ) (level : j < t.height) where
  row-bits : (p : ℕ) → p < length (entries_in bytes t) → bit_at (row_in bytes t j) p ≡ get_or (row t.height j (entries_in bytes t)) p 0
  row-bits p l =
      sym (get_or-bits_of t.entries (row_in bytes t j) p (omega (arith, length-entries_in bytes t)))
      ∙ ap (λ (b : List ℕ). get_or b p 0) (sym (level_is bytes t j level))

  abbrev xs : List ℕ
  xs = entries_in bytes t

  keys_size : length (keys_at bytes t j) ≡ t.entries
  keys_size = length-map xs (key t.height j) ∙ length-entries_in bytes t

  pub keyed : (keys : List ℕ) → keys ≡ keys_at bytes t j → Keyed 0 (2 ^ j) keys
  keyed keys e =
      subst (Keyed 0 (2 ^ j)) (sym e)
      (record {
        few = omega (arith, keys_size, r.few);
        short = omega arith;
        keys = λ i l. rw (div-one (get_or (keys_at bytes t j) i 0)) (ks-below t.height j xs level (within_entries_in bytes t) i l);
      })

  pub descent : (keys next : List ℕ) → keys ≡ keys_at bytes t j → length next ≡ 4096 → Next 0 (2 ^ j) keys 0 next → Descent (row_in bytes t j) next keys
  descent keys next e size places =
      let k = keyed keys e in
      let low : 2 ^ j ≤ 4096 = key-count j (omega (arith, r.low)) in
      let many : length keys ≡ t.entries = ap length e ∙ keys_size in
      record {
        bound = 2 ^ j;
        low = low;
        few = k.few;
        keys_below = λ i l. rw (div-one (get_or keys i 0)) at (k.keys i l);
        counters = omega arith;
        places = places;
        size = omega (arith, length-row_in bytes t r j level);
      }

  pub read_on : (keys after : List ℕ) → keys ≡ keys_at bytes t j → length after ≡ length keys → Deepened (row_in bytes t j) keys after
      → after ≡ keys_at bytes t (j + 1)
  read_on keys after e size deep =
      deepened t.height j xs level (within_entries_in bytes t) (row_in bytes t j) after row-bits (size ∙ ap length e)
      (subst (λ (k : List ℕ). Deepened (row_in bytes t j) k after) e deep)

-- ---- the term lengths

-- the first t lengths are read
abbrev pub Read : List ℕ → ℕ → List ℕ → Type 0
Read bytes t lengths = (r : ℕ) → r < t → get_or lengths r 0 ≡ length_at bytes r

pub read_more : (bytes lengths : List ℕ) (t x : ℕ) → t < length lengths → x ≡ length_at bytes t → Read bytes t lengths → Read bytes (t + 1) (set lengths t x)
read_more bytes lengths t x l e read r m = go (ℕ_discrete r t)
  where
    go : Dec (r ≡ t) → get_or (set lengths t x) r 0 ≡ length_at bytes r
    go (yes d) = rw d (get_or-set_same lengths t x 0 l ∙ e)
    go (no d) = get_or-set_other lengths t r x 0 d ∙ read r (omega arith)

pub read_all : (bytes lengths : List ℕ) (n : ℕ) → length lengths ≡ n → Read bytes n lengths → lengths ≡ map (length_at bytes) (below n)
read_all bytes lengths n e read =
    ext_get_or 0 lengths (map (length_at bytes) (below n)) (e ∙ sym (length-map (below n) (length_at bytes) ∙ length-up_from 0 n))
    (λ r l. read r (omega arith) ∙ sym (get_or-map-below (length_at bytes) n r 0 (omega arith)))
