-- The rows of bits of a list of entries, and the list that given rows belong to. Document 01, "Bit rows".
use Rattle.std.specs.Prelude.{ℕ, zero, suc, ◌+◌, ◌-◌, ◌/◌, ◌%◌, ◌^◌, List, [], ◌∷◌, map, cond, get_or, take, drop, replicate, leb, eqb}
use Rattle.bits.specs.Sequences.{below, occurrences}
use Rattle.bits.specs.Bits.{concat}
use Rattle.model.specs.Lists.{keep}

-- the smallest number from h upward, in so many tries, with 2 ^ h at least N
abbrev pub height_from : ℕ → ℕ → ℕ → ℕ
height_from zero h N = h
height_from (suc tries) h N =
    let higher = height_from tries (suc h) N in
    cond (leb N (2 ^ h)) h higher

-- h: the smallest number with 2 ^ h at least N; N tries are enough
abbrev pub height : ℕ → ℕ
height N = height_from N 0 N

-- the entries arranged by value / 2 ^ (h - j), equal ones in their old order
abbrev pub arranged : ℕ → ℕ → List ℕ → List ℕ
arranged h j xs = concat (map (λ q. keep (λ v. eqb (v / 2 ^ (h - j)) q) xs) (below (2 ^ j)))

-- row j: the bit (value / 2 ^ (h - 1 - j)) % 2 of each entry so arranged
abbrev pub row : ℕ → ℕ → List ℕ → List ℕ
row h j xs = map (λ v. v / 2 ^ (h - 1 - j) % 2) (arranged h j xs)

-- the next of the high entries where the bit is 1, with the top bit put back, and the next of the low ones where it is 0
abbrev pub interleave : ℕ → List ℕ → List ℕ → List ℕ → List ℕ
interleave top [] lows highs = []
interleave top (c ∷ cs) lows highs =
    let one = (top + get_or highs 0 0) ∷ interleave top cs lows (drop 1 highs) in
    let other = get_or lows 0 0 ∷ interleave top cs (drop 1 lows) highs in
    cond (eqb c 1) one other

-- the one list of n entries below 2 ^ h that has the given rows (proofs/Wavelet/Decode: `decoded`, `rows_unique`)
abbrev pub decode : ℕ → ℕ → (ℕ → List ℕ) → List ℕ
decode zero n rows = replicate n 0
decode (suc h) n rows =
    let zeros = occurrences 0 (rows 0) in
    let lows = decode h zeros (λ j. take zeros (rows (suc j))) in
    let highs = decode h (n - zeros) (λ j. drop zeros (rows (suc j))) in
    interleave (2 ^ h) (rows 0) lows highs
