-- Rows of bits as bytes, after document 01, "Bit rows" and "Archive bytes": bits, unused bits, samples, numbers of 32 bits.
use Rattle.std.specs.Prelude.{ℕ, ◌+◌, ◌-◌, ◌*◌, ◌/◌, ◌%◌, ◌^◌, List, [], ◌∷◌, ◌++◌, map, Bool, length, get_or, eqb}
use Rattle.bits.specs.Sequences.{all, up_from, below, rank}

module _ {A : Type 0} where
  abbrev pub concat : List (List A) → List A
  concat [] = []
  concat (x ∷ xs) = x ++ concat xs

abbrev pub sum : List ℕ → ℕ
sum [] = 0
sum (x ∷ xs) = x + sum xs

-- bit i of a row lies in byte i / 8 with weight 2 ^ (i % 8)
abbrev pub bit_at : List ℕ → ℕ → ℕ
bit_at row i = get_or row (i / 8) 0 / 2 ^ (i % 8) % 2

-- the first n bits of a row
unfoldable pub bits_of : ℕ → List ℕ → List ℕ
bits_of n row = map (bit_at row) (below n)

-- a row of n bits has (n + 7) / 8 bytes and (n + 511) / 512 samples
abbrev pub row_bytes : ℕ → ℕ
row_bytes n = (n + 7) / 8

abbrev pub sample_count : ℕ → ℕ
sample_count n = (n + 511) / 512

-- byte k of the row with the given bits
abbrev pub byte_of : List ℕ → ℕ → ℕ
byte_of bits k = sum (map (λ r. get_or bits (8 * k + r) 0 * 2 ^ r) (below 8))

-- the row with the given bits; unused bits are 0
unfoldable pub pack : List ℕ → List ℕ
pack bits = map (byte_of bits) (below (row_bytes (length bits)))

-- whether the unused bits of a row of n bits are 0
unfoldable pub unused_clear : ℕ → List ℕ → Bool
unused_clear n row = all (λ i. eqb (bit_at row i) 0) (up_from n (8 * row_bytes n - n))

-- a number of 32 bits, low byte first
abbrev pub little_endian : ℕ → List ℕ
little_endian x = x % 256 ∷ x / 256 % 256 ∷ x / 65536 % 256 ∷ x / 16777216 % 256 ∷ []

-- the number of 32 bits at an offset
abbrev pub number_at : List ℕ → ℕ → ℕ
number_at bytes k =
    get_or bytes k 0 + 256 * get_or bytes (k + 1) 0 + 65536 * get_or bytes (k + 2) 0 + 16777216 * get_or bytes (k + 3) 0

-- sample t of a row: the ones below bit 512 * t
abbrev pub sample : List ℕ → ℕ → ℕ
sample bits t = rank 1 bits (512 * t)

-- the samples of a row of bits, as bytes
unfoldable pub samples_of : List ℕ → List ℕ
samples_of bits = concat (map (λ t. little_endian (sample bits t)) (below (sample_count (length bits))))

-- whether every sample of a row of n bits is right
unfoldable pub samples_right : ℕ → List ℕ → List ℕ → Bool
samples_right n samples row = all (λ t. eqb (number_at samples (4 * t)) (sample (bits_of n row) t)) (below (sample_count n))
