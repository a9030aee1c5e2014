-- Rows of bits and lists of entries are the same: `decode` undoes the rows, and the rows undo `decode`.
use Prim.Native.Nat.{ℕ, zero, suc, ◌-◌, ◌/◌, ◌%◌, ◌^◌, ◌≤◌, ◌<◌, suc-le-suc}
use mathlib.Core.Path.{◌≡◌, refl, sym, ap, ap₂, ◌∙◌}
use mathlib.Core.List.{List, [], ◌∷◌, ◌++◌, map}
use native.Mathlib.Nat.{le_of_lt, not-suc-le-zero, le_of_suc-le-suc, zero-lt-suc, two-pow-succ}
use native.Mathlib.Omega.{arith}
use lib.ListN.{length, take, drop, replicate, length-replicate, length-drop, take-append-drop}
use lib.Seq.{length-take-le, take_at, drop_at}
use lib.Dec.{leb, ltb, eqb}
use Rattle.bits.specs.Sequences.{occurrences}
use Rattle.bits.specs.Bits.{bits_of}
use Rattle.bits.proofs.Tally.{tally_le_length}
use Rattle.bits.proofs.Bits.{length-bits_of, get_or-bits_of, bit_at_lt}
use Rattle.model.specs.Lists.{keep, Within}
use Rattle.model.specs.Rows.{row, interleave, decode}
use Rattle.model.proofs.Lists.{within_take, within_drop, within_of}
use Rattle.model.proofs.Wavelet.Rows.{row-length, RowsOf}
use Rattle.model.proofs.Wavelet.Mix.{Mix, mix_lows, mix_highs, mix_bits, mix_within, mix_lows_within, mix_highs_within, mix_zeros, mix_length, mix_is, mix_of, mix_make}
use Rattle.model.proofs.Wavelet.Split.{row-top, row-suc}

decode_same : (h n : ℕ) (r s : ℕ → List ℕ) → ((j : ℕ) → j < h → r j ≡ s j) → decode h n r ≡ decode h n s
decode_same zero n r s e = refl
decode_same (suc h) n r s e =
    let z : ℕ = occurrences 0 (r 0) in
    ap₂ (λ (a b : List ℕ). interleave (2 ^ h) (r 0) a b)
    (decode_same h z (λ j. take z (r (suc j))) (λ j. take z (s (suc j))) (λ j l. ap (take z) (e (suc j) (suc-le-suc l))))
    (decode_same h (n - z) (λ j. drop z (r (suc j))) (λ j. drop z (s (suc j))) (λ j l. ap (drop z) (e (suc j) (suc-le-suc l))))
    ∙ ap (λ (c : List ℕ). interleave (2 ^ h) c (decode h (occurrences 0 c) (λ j. take (occurrences 0 c) (s (suc j))))
    (decode h (n - occurrences 0 c) (λ j. drop (occurrences 0 c) (s (suc j))))) (e 0 (zero-lt-suc h))

within_replicate : (m n : ℕ) → 0 < m → Within m (replicate n 0)
within_replicate m zero l = tt
within_replicate m (suc n) l = (l, within_replicate m n l)

-- any rows of bits are the rows of what they decode to
pub decoded : (h n : ℕ) (rows : ℕ → List ℕ) → ((j : ℕ) → j < h → length (rows j) ≡ n) → ((j : ℕ) → j < h → Within 2 (rows j)) → RowsOf h n (decode h n rows) rows
decoded zero n rows len bits = record { entries = within_replicate 1 n (zero-lt-suc 0); size = length-replicate n 0; rowwise = λ j l. absurd (not-suc-le-zero l) }
decoded (suc h) n rows len bits =
    go
    (decoded h z (λ j. take z (rows (suc j))) (λ j l. length-take-le z (rows (suc j)) (rw (len (suc j) (suc-le-suc l)) zn))
    (λ j l. within_take 2 z (rows (suc j)) (bits (suc j) (suc-le-suc l))))
    (decoded h (n - z) (λ j. drop z (rows (suc j))) (λ j l. length-drop z (rows (suc j)) ∙ ap (λ (m : ℕ). m - z) (len (suc j) (suc-le-suc l)))
    (λ j l. within_drop 2 z (rows (suc j)) (bits (suc j) (suc-le-suc l))))
  where
    z : ℕ
    z = occurrences 0 (rows 0)

    l₀ : length (rows 0) ≡ n
    l₀ = len 0 (zero-lt-suc h)

    zn : z ≤ n
    zn = rw l₀ at (tally_le_length (eqb 0) (rows 0))

    go : RowsOf h z (decode h z (λ j. take z (rows (suc j)))) (λ j. take z (rows (suc j)))
        → RowsOf h (n - z) (decode h (n - z) (λ j. drop z (rows (suc j)))) (λ j. drop z (rows (suc j)))
        → RowsOf (suc h) n (decode (suc h) n rows) rows
    go L R = record { entries = within_all; size = mix_length mix ∙ omega (arith, L.size, R.size, l₀, zn); rowwise = each }
      where
        A : List ℕ
        A = decode h z (λ j. take z (rows (suc j)))

        B : List ℕ
        B = decode h (n - z) (λ j. drop z (rows (suc j)))

        mix : Mix (2 ^ h) (rows 0) A B (interleave (2 ^ h) (rows 0) A B)
        mix = mix_make (2 ^ h) (rows 0) A B (bits 0 (zero-lt-suc h)) L.entries R.entries L.size (omega (arith, L.size, R.size, l₀, zn))

        within_all : Within (2 ^ suc h) (interleave (2 ^ h) (rows 0) A B)
        within_all = rw two-pow-succ (mix_within mix)

        each : (j : ℕ) → j < suc h → row (suc h) j (interleave (2 ^ h) (rows 0) A B) ≡ rows j
        each zero l = row-top h (interleave (2 ^ h) (rows 0) A B) within_all ∙ mix_bits mix
        each (suc j) l =
            row-suc h j (interleave (2 ^ h) (rows 0) A B) A B (le_of_suc-le-suc l) (mix_lows mix) (mix_highs mix)
            ∙ ap₂ (λ (a b : List ℕ). a ++ b) (L.rowwise j (le_of_suc-le-suc l)) (R.rowwise j (le_of_suc-le-suc l)) ∙ take-append-drop z (rows (suc j))

all-zero : (xs : List ℕ) → Within 1 xs → replicate (length xs) 0 ≡ xs
all-zero [] b = refl
all-zero (x ∷ xs) b = ap₂ (λ (y : ℕ) (r : List ℕ). y ∷ r) (omega (arith, b.0)) (all-zero xs b.1)

-- and the rows of a list decode to the list
pub decode-rows : (h : ℕ) (xs : List ℕ) → Within (2 ^ h) xs → decode h (length xs) (λ j. row h j xs) ≡ xs
decode-rows zero xs b = all-zero xs b
decode-rows (suc h) xs b =
    ap (λ (c : List ℕ). interleave (2 ^ h) c (decode h (occurrences 0 c) (λ j. take (occurrences 0 c) (row (suc h) (suc j) xs)))
    (decode h (length xs - occurrences 0 c) (λ j. drop (occurrences 0 c) (row (suc h) (suc j) xs)))) (row-top h xs b)
    ∙ ap (λ (n : ℕ). interleave (2 ^ h) c (decode h n (λ j. take n (row (suc h) (suc j) xs))) (decode h (length xs - n) (λ j. drop n (row (suc h) (suc j) xs)))) (mix_zeros mix)
    ∙ ap₂ (λ (a b : List ℕ). interleave (2 ^ h) c a b)
    (decode_same h (length ls) (λ j. take (length ls) (row (suc h) (suc j) xs)) (λ j. row h j ls)
    (λ j l. ap (take (length ls)) (cut j l) ∙ take_at (row h j ls) (row h j hs) (length ls) (row-length h j ls (le_of_lt l) (mix_lows_within mix)))
    ∙ decode-rows h ls (mix_lows_within mix))
    (ap (λ (n : ℕ). decode h n (λ j. drop (length ls) (row (suc h) (suc j) xs))) rest
    ∙ decode_same h (length hs) (λ j. drop (length ls) (row (suc h) (suc j) xs)) (λ j. row h j hs)
    (λ j l. ap (drop (length ls)) (cut j l) ∙ drop_at (row h j ls) (row h j hs) (length ls) (row-length h j ls (le_of_lt l) (mix_lows_within mix)))
    ∙ decode-rows h hs (mix_highs_within mix))
    ∙ mix_is mix
  where
    c : List ℕ
    c = map (λ v. v / 2 ^ h % 2) xs

    ls : List ℕ
    ls = keep (λ v. ltb v (2 ^ h)) xs

    hs : List ℕ
    hs = map (λ v. v - 2 ^ h) (keep (λ v. leb (2 ^ h) v) xs)

    mix : Mix (2 ^ h) c ls hs xs
    mix = mix_of (2 ^ h) xs (rw two-pow-succ at b)

    rest : length xs - length ls ≡ length hs
    rest = omega (arith, mix_length mix)

    cut : (j : ℕ) → j < h → row (suc h) (suc j) xs ≡ row h j ls ++ row h j hs
    cut j l = row-suc h j xs ls hs l (mix_lows mix) (mix_highs mix)

-- rows that are read from bytes: whatever the bytes, they are the rows of the list that they decode to
pub decoded_bits : (h n : ℕ) (bytes : ℕ → List ℕ) → RowsOf h n (decode h n (λ j. bits_of n (bytes j))) (λ j. bits_of n (bytes j))
decoded_bits h n bytes = decoded h n (λ j. bits_of n (bytes j)) (λ j l. length-bits_of n (bytes j)) (λ j l. within_bits_of (bytes j))
  where
    within_bits_of : (row : List ℕ) → Within 2 (bits_of n row)
    within_bits_of row = within_of 2 (bits_of n row) (λ i l. rw (get_or-bits_of n row i (rw (length-bits_of n row) at l)) (bit_at_lt row i))

pub decode-of : {h n : ℕ} {xs : List ℕ} {rows : ℕ → List ℕ} → RowsOf h n xs rows → decode h n rows ≡ xs
decode-of {h} {n} {xs} {rows} R =
    ap (λ (k : ℕ). decode h k rows) (sym R.size) ∙ decode_same h (length xs) rows (λ j. row h j xs) (λ j l. sym (R.rowwise j l))
    ∙ decode-rows h xs R.entries

-- so no two lists of one length have the same rows
pub rows_unique : (h : ℕ) (xs ys : List ℕ) → Within (2 ^ h) xs → Within (2 ^ h) ys → length xs ≡ length ys
    → ((j : ℕ) → j < h → row h j xs ≡ row h j ys) → xs ≡ ys
rows_unique h xs ys bx by e r = sym (decode-of (record { entries = bx; size = e; rowwise = r })) ∙ decode-rows h ys by
