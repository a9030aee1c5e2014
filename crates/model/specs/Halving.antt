-- Halving a node (block) with a range in it, step by step as document 004, section 3.1, tells it. Document 02, M-103.
-- "By traversing down the wavelet tree of D, while setting sp' = rank b (B v, sp - 1) + 1 and ep' = rank b (B v, ep) as we descend to the left (b = 0) or right (b = 1)
-- child of B v": the paper counts from 1 and includes both ends. Here places count from 0 and the upper end is left out, so that each end p is mapped to rank b (B v, p).
use Rattle.std.specs.Prelude.{ℕ, zero, suc, ◌+◌, ◌-◌, ◌*◌, ◌/◌, ◌%◌, ◌≡◌, List, cond, eqb}
use Rattle.bits.specs.Sequences.{rank}
use Rattle.bits.specs.Bits.{bits_of}
use Rattle.model.specs.Lists.{part}
use Rattle.model.specs.Opening.{sizes_at, row_at}
use Rattle.model.specs.TopK.{node, count_in}

-- ---- the steps

-- a node in its row, from its start up to its end, and the lower and the upper end of the range in it
pub record Stretch : Type 0 where
  pub start : ℕ
  pub lower : ℕ
  pub upper : ℕ
  pub end : ℕ

-- the bits of the node: "B v"
abbrev pub bits_in : List ℕ → Stretch → List ℕ
bits_in row v = part v.start v.end row

-- a place mapped to both halves: "rank b (B v, p)" for b = 0 and for b = 1
pub record Mapped : Type 0 where
  pub zeros : ℕ
  pub ones : ℕ

abbrev pub map_end : List ℕ → ℕ → Mapped
map_end bits p = record { zeros = rank 0 bits p; ones = rank 1 bits p }

-- the four steps, in the order of the text: the lower end is mapped, the upper end is mapped, the zero half is tried, then the one half.
-- In the row below, the zero half starts where the node does, and the one half where the zero half ends
pub record Steps : Type 0 where
  pub lower : Mapped
  pub upper : Mapped
  pub zero_half : Stretch
  pub one_half : Stretch

abbrev pub steps : List ℕ → Stretch → Steps
steps row v =
    let bits = bits_in row v in
    let low = map_end bits (v.lower - v.start) in
    let high = map_end bits (v.upper - v.start) in
    let middle = v.start + (map_end bits (v.end - v.start)).zeros in
    record {
      lower = low;
      upper = high;
      zero_half = record { start = v.start; lower = v.start + low.zeros; upper = v.start + high.zeros; end = middle };
      one_half = record { start = middle; lower = middle + low.ones; upper = middle + high.ones; end = v.end };
    }

-- ---- the way down: from the root by the steps alone

-- the root of n entries, with the range of the entries a up to but without b
abbrev pub root : ℕ → ℕ → ℕ → Stretch
root n a b = record { start = 0; lower = a; upper = b; end = n }

-- the node q of depth j: of the node above it, the one half where q is odd, else the zero half
abbrev pub descend : (ℕ → List ℕ) → Stretch → ℕ → ℕ → Stretch
descend rows top zero q = top
descend rows top (suc j) q =
    let two = steps (rows j) (descend rows top j (q / 2)) in
    cond (eqb (q % 2) 1) two.one_half two.zero_half

-- row i of an archive, as it stands in the bytes
abbrev pub row_of : List ℕ → ℕ → List ℕ
row_of bytes i = bits_of (sizes_at bytes).entries (row_at bytes (sizes_at bytes) i)

-- the steps at the node q of depth j of an archive
abbrev pub steps_at : List ℕ → ℕ → ℕ → ℕ → ℕ → Steps
steps_at bytes a b j q = steps (row_of bytes j) (descend (row_of bytes) (root (sizes_at bytes).entries a b) j q)

-- ---- what they give

-- how many entries of the range are in a node
abbrev pub size : Stretch → ℕ
size v = v.upper - v.lower

-- the counts of the two halves of a node of two or more numbers, the node q of height l + 1, among the entries xs of a range: "n0" and "n1"
-- (document 004, section 4)
pub record GiveCounts (xs : List ℕ) (l q : ℕ) (s : Steps) : Type 0 where
  pub zero_half_size : size s.zero_half ≡ count_in xs (node l (2 * q))
  pub one_half_size : size s.one_half ≡ count_in xs (node l (2 * q + 1))
