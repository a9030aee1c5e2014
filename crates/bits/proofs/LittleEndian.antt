-- Numbers of 32 bits and their bytes, low byte first; the samples of a row as such numbers.
use Prim.Native.Nat.{ℕ, zero, suc, ◌+◌, ◌*◌, ◌/◌, ◌%◌, ◌^◌, ◌≤◌, ◌<◌}
use native.Mathlib.Omega.{arith}
use native.Mathlib.Nat.{add_assoc, zero-add, add-zero}
use native.Mathlib.Numerals.{add-one, add-two, add-three}
use mathlib.Core.Path.{◌≡◌, refl, sym, ap, ap₂, ◌∙◌}
use mathlib.Core.List.{List, [], ◌∷◌, ◌++◌, map, map-map, append-nil}
use mathlib.Core.Bool.{true}
use lib.ListN.{length, get_or, take, drop, length-take, length-map}
use lib.Seq.{get_or-drop, take_all, drop-cons, drop-drop, take-add}
use lib.Dec.{eqb}
use borrow.Author.Tests.{eqb-true, eq-eqb}
use Rattle.bits.specs.Sequences.{below}
use Rattle.bits.specs.Bits.{concat, bits_of, sample_count, little_endian, number_at, sample, samples_of, samples_right}
use Rattle.bits.proofs.Tally.{tally_le_length, all-up_from, all-up_from-at, length-up_from, get_or-map-below}
use Rattle.bits.proofs.Bits.{length-bits_of}

-- ---- one number

-- a number further on in a list
pub number_at-drop : (bytes : List ℕ) (k j : ℕ) → number_at (drop k bytes) j ≡ number_at bytes (k + j)
number_at-drop bytes k j =
    let at : (i : ℕ) → get_or (drop k bytes) (j + i) 0 ≡ get_or bytes (k + j + i) 0
    = λ i. get_or-drop k bytes (j + i) 0 ∙ ap (λ (n : ℕ). get_or bytes n 0) (sym (add_assoc k j i)) in
    λ i. get_or-drop k bytes j 0 i + 256 * at 1 i + 65536 * at 2 i + 16777216 * at 3 i

-- dividing by 256 four times takes a number apart into its bytes
quarters : (x c1 c2 d0 d1 d2 d3 : ℕ) → x ≡ 256 * c1 + d0 → c1 ≡ 256 * c2 + d1 → c2 ≡ 256 * d3 + d2
    → d0 + 256 * d1 + 65536 * d2 + 16777216 * d3 ≡ x
quarters x c1 c2 d0 d1 d2 d3 e0 e1 e2 = omega arith

-- the number in its bytes
pub number_at_little : (x : ℕ) → x < 2 ^ 32 → number_at (little_endian x) 0 ≡ x
number_at_little x l =
    quarters x (x / 256) (x / 65536) (x % 256) (x / 256 % 256) (x / 65536 % 256) (x / 16777216 % 256) (omega arith) (omega arith) (omega arith)

module _ (a b c d : ℕ) (la : a < 256) (lb : b < 256) (lc : c < 256) (ld : d < 256) where
  bytes_back : little_endian (a + 256 * b + 65536 * c + 16777216 * d) ≡ a ∷ b ∷ c ∷ d ∷ []
  bytes_back = λ i. e0 i ∷ e1 i ∷ e2 i ∷ e3 i ∷ []
    where
      e0 : (a + 256 * b + 65536 * c + 16777216 * d) % 256 ≡ a
      e0 = omega arith

      e1 : (a + 256 * b + 65536 * c + 16777216 * d) / 256 % 256 ≡ b
      e1 = omega arith

      e2 : (a + 256 * b + 65536 * c + 16777216 * d) / 65536 % 256 ≡ c
      e2 = omega arith

      e3 : (a + 256 * b + 65536 * c + 16777216 * d) / 16777216 % 256 ≡ d
      e3 = omega arith

-- four bytes from place k on
four_from : (bytes : List ℕ) (k : ℕ) → k + 4 ≤ length bytes
    → get_or bytes k 0 ∷ get_or bytes (k + 1) 0 ∷ get_or bytes (k + 2) 0 ∷ get_or bytes (k + 3) 0 ∷ [] ≡ take 4 (drop k bytes)
four_from bytes k l =
    rw (add-one k, add-two k, add-three k)
    (sym
    (ap (take 4) (drop-cons bytes k 0 (omega arith))
    ∙ ap (λ (r : List ℕ). get_or bytes k 0 ∷ take 3 r) (drop-cons bytes (suc k) 0 (omega arith))
    ∙ ap (λ (r : List ℕ). get_or bytes k 0 ∷ get_or bytes (suc k) 0 ∷ take 2 r) (drop-cons bytes (suc (suc k)) 0 (omega arith))
    ∙ ap (λ (r : List ℕ). get_or bytes k 0 ∷ get_or bytes (suc k) 0 ∷ get_or bytes (suc (suc k)) 0 ∷ take 1 r) (drop-cons bytes (suc (suc (suc k))) 0 (omega arith))))

-- The bytes of a number that stands in a list of bytes
pub little_number_at : (bytes : List ℕ) → ((i : ℕ) → get_or bytes i 0 < 256) → (k : ℕ) → k + 4 ≤ length bytes → little_endian (number_at bytes k) ≡ take 4 (drop k bytes)
little_number_at bytes small k l =
    bytes_back (get_or bytes k 0) (get_or bytes (k + 1) 0) (get_or bytes (k + 2) 0) (get_or bytes (k + 3) 0) (small k) (small (k + 1)) (small (k + 2)) (small (k + 3))
    ∙ four_from bytes k l

-- ---- a list of numbers

pub length-numbers : (xs : List ℕ) → length (concat (map little_endian xs)) ≡ 4 * length xs
length-numbers [] = refl
length-numbers (x ∷ xs) = omega (arith, length-numbers xs)

-- number i of a list of numbers, whatever follows them
pub number_at-numbers : (xs rest : List ℕ) (i : ℕ) → i < length xs → get_or xs i 0 < 2 ^ 32 → number_at (concat (map little_endian xs) ++ rest) (4 * i) ≡ get_or xs i 0
number_at-numbers [] rest i l h = absurd (omega arith)
number_at-numbers (x ∷ xs) rest zero l h = number_at_little x h
number_at-numbers (x ∷ xs) rest (suc i) l h =
    let e : 4 * suc i ≡ 4 + 4 * i = omega arith in
    ap (number_at (little_endian x ++ (concat (map little_endian xs) ++ rest))) e
    ∙ sym (number_at-drop (little_endian x ++ (concat (map little_endian xs) ++ rest)) 4 (4 * i))
    ∙ number_at-numbers xs rest i (omega arith) h

-- numbers that stand one after the other in a list of bytes
pub numbers-at : (bytes : List ℕ) → ((i : ℕ) → get_or bytes i 0 < 256) → (k : ℕ) (xs : List ℕ) → k + 4 * length xs ≤ length bytes
    → ((i : ℕ) → i < length xs → get_or xs i 0 ≡ number_at bytes (k + 4 * i))
    → concat (map little_endian xs) ≡ take (4 * length xs) (drop k bytes)
numbers-at bytes small k [] l h = refl
numbers-at bytes small k (x ∷ xs) l h =
    let e : 4 * suc (length xs) ≡ 4 + 4 * length xs = omega arith in
    ap₂ (λ (a b : List ℕ). a ++ b)
    (ap little_endian (h 0 (omega arith) ∙ ap (number_at bytes) (add-zero k)) ∙ little_number_at bytes small k (omega arith))
    (numbers-at bytes small (k + 4) xs (omega arith)
    (λ i m. h (suc i) (omega arith) ∙ ap (number_at bytes) (omega arith))
    ∙ ap (take (4 * length xs)) (sym (drop-drop 4 k bytes)))
    ∙ sym (take-add 4 (4 * length xs) (drop k bytes)) ∙ ap (λ (n : ℕ). take n (drop k bytes)) (sym e)

-- ---- the samples of a row

samples_numbers : (bits : List ℕ) → samples_of bits ≡ concat (map little_endian (map (sample bits) (below (sample_count (length bits)))))
unfolding samples_of
samples_numbers bits = ap concat (sym (map-map little_endian (sample bits) (below (sample_count (length bits)))))

pub length_samples : (bits : List ℕ) → length (samples_of bits) ≡ 4 * sample_count (length bits)
length_samples bits =
    ap length (samples_numbers bits) ∙ length-numbers (map (sample bits) (below (sample_count (length bits))))
    ∙ ap (λ (n : ℕ). 4 * n) (length-map (below (sample_count (length bits))) (sample bits) ∙ length-up_from 0 (sample_count (length bits)))

pub sample_le : (bits : List ℕ) (t : ℕ) → sample bits t ≤ length bits
sample_le bits t = omega (arith, tally_le_length (eqb 1) (take (512 * t) bits), length-take (512 * t) bits)

-- number t of the samples
pub number_at_samples : (bits : List ℕ) → length bits < 2 ^ 32 → (t : ℕ) → t < sample_count (length bits) → number_at (samples_of bits) (4 * t) ≡ sample bits t
number_at_samples bits n t l =
    let s = sample_count (length bits) in
    let xs = map (sample bits) (below s) in
    let at : get_or xs t 0 ≡ sample bits t = get_or-map-below (sample bits) s t 0 l in
    let size : length xs ≡ s = length-map (below s) (sample bits) ∙ length-up_from 0 s in
    ap (λ (b : List ℕ). number_at b (4 * t)) (samples_numbers bits ∙ sym (append-nil (concat (map little_endian xs))))
    ∙ number_at-numbers xs [] t (omega arith) (omega (arith, sample_le bits t))
    ∙ at

-- the samples of a row's bits are right
pub samples_right_lem : (n : ℕ) (row : List ℕ) → n < 2 ^ 32 → samples_right n (samples_of (bits_of n row)) row ≡ true
unfolding samples_right
samples_right_lem n row l =
    all-up_from (λ t. eqb (number_at (samples_of (bits_of n row)) (4 * t)) (sample (bits_of n row) t)) 0 (sample_count n)
    (λ t a b.
    eq-eqb (number_at (samples_of (bits_of n row)) (4 * t)) (sample (bits_of n row) t)
    (number_at_samples (bits_of n row) (rw (length-bits_of n row) l) t (rw (length-bits_of n row) (omega arith))))

-- samples that are right are those of the row's bits
pub samples_are : (n : ℕ) (samples row : List ℕ) → ((i : ℕ) → get_or samples i 0 < 256) → length samples ≡ 4 * sample_count n
    → samples_right n samples row ≡ true → samples_of (bits_of n row) ≡ samples
unfolding samples_right
samples_are n samples row small size right =
    let bits = bits_of n row in
    let xs = map (sample bits) (below (sample_count (length bits))) in
    let s : sample_count (length bits) ≡ sample_count n = ap sample_count (length-bits_of n row) in
    let m : length xs ≡ sample_count n = length-map (below (sample_count (length bits))) (sample bits) ∙ length-up_from 0 (sample_count (length bits)) ∙ s in
    samples_numbers bits
    ∙ numbers-at samples small 0 xs (omega arith)
    (λ t l.
    get_or-map-below (sample bits) (sample_count (length bits)) t 0 (omega arith)
    ∙ sym
    (eqb-true (number_at samples (4 * t)) (sample bits t)
    (all-up_from-at (λ t. eqb (number_at samples (4 * t)) (sample bits t)) 0 (sample_count n) right t (omega arith) (omega arith)))
    ∙ ap (number_at samples) (sym (zero-add (4 * t))))
    ∙ take_all (4 * length xs) samples (omega arith)
