-- Places in a wavelet tree, and how code walks over its rows, one row at each step. Document 01, "Bit rows"; document 004, section 3.1.
-- The rows are given as a function of their number.
use Rattle.std.specs.Prelude.{ℕ, zero, suc, ◌+◌, ◌-◌, ◌*◌, ◌/◌, ◌%◌, ◌^◌, List, cond, take, ltb, eqb}
use Rattle.bits.specs.Sequences.{tally, rank, select}

-- ---- where a node's entries stand in its row

-- the node of depth j that holds v
abbrev pub key : ℕ → ℕ → ℕ → ℕ
key h j v = v / 2 ^ (h - j)

-- in an arrangement by the key k, where those of node q end that come from the first a entries
abbrev pub pos_of : (ℕ → ℕ) → List ℕ → ℕ → ℕ → ℕ
pos_of k xs q a = tally (λ v. ltb (k v) q) xs + tally (λ v. eqb (k v) q) (take a xs)

abbrev pub pos : ℕ → List ℕ → ℕ → ℕ → ℕ → ℕ
pos h xs j q a = pos_of (key h j) xs q a

-- ---- from a place p of the node that starts at s and ends at e to its halves

-- the zeros between two places
abbrev pub zeros_in : List ℕ → ℕ → ℕ → ℕ
zeros_in bits s p = (p - s) - (rank 1 bits p - rank 1 bits s)

-- in the zero half, which starts at s, and in the one half, which ends at e
abbrev pub left : List ℕ → ℕ → ℕ → ℕ
left bits s p = s + zeros_in bits s p

abbrev pub right : List ℕ → ℕ → ℕ → ℕ → ℕ
right bits s e p = s + zeros_in bits s e + (rank 1 bits p - rank 1 bits s)

-- ---- the walks: m more rows, the next of them row j

-- how many entries before place p are v: down by the bits of v
abbrev pub rank_from : (ℕ → List ℕ) → ℕ → ℕ → ℕ → ℕ → ℕ → ℕ → ℕ
rank_from rows v zero j s p e = p - s
rank_from rows v (suc m) j s p e =
    let b = rows j in
    let mid = left b s e in
    let low = rank_from rows v m (suc j) s (left b s p) mid in
    let high = rank_from rows v m (suc j) mid (right b s e p) e in
    cond (eqb (v / 2 ^ m % 2) 1) high low

abbrev pub rank_walk : (ℕ → List ℕ) → ℕ → ℕ → ℕ → ℕ → ℕ
rank_walk rows h n v i = rank_from rows v h 0 0 i n

module _ {A : Type 0} (leaf : ℕ → ℕ → A) where
  -- the entry of rank r among those from lo up to but without hi, in the node q: what is made of it and of how many of them are like it
  abbrev pub quantile_from : (ℕ → List ℕ) → ℕ → ℕ → ℕ → ℕ → ℕ → ℕ → ℕ → ℕ → A
  quantile_from rows zero j q s lo hi e r = leaf q (hi - lo)
  quantile_from rows (suc m) j q s lo hi e r =
      let b = rows j in
      let mid = left b s e in
      let zeros = zeros_in b lo hi in
      let low = quantile_from rows m (suc j) (2 * q) s (left b s lo) (left b s hi) mid r in
      let high = quantile_from rows m (suc j) (2 * q + 1) mid (right b s e lo) (right b s e hi) e (r - zeros) in
      cond (ltb r zeros) low high

  abbrev pub quantile_walk : (ℕ → List ℕ) → ℕ → ℕ → ℕ → ℕ → ℕ → A
  quantile_walk rows h n a b r = quantile_from rows h 0 0 0 a b n r

-- how far into the node the entry v stands that has k like it before it: down by the bits of v, and up by the places of the bits
abbrev pub select_from : (ℕ → List ℕ) → ℕ → ℕ → ℕ → ℕ → ℕ → ℕ → ℕ
select_from rows v zero j s e k = k
select_from rows v (suc m) j s e k =
    let b = rows j in
    let mid = left b s e in
    let low = select 0 b ((s - rank 1 b s) + select_from rows v m (suc j) s mid k + 1) - s in
    let high = select 1 b (rank 1 b s + select_from rows v m (suc j) mid e k + 1) - s in
    cond (eqb (v / 2 ^ m % 2) 1) high low

-- the place of the i-th entry v, i from 1
abbrev pub select_walk : (ℕ → List ℕ) → ℕ → ℕ → ℕ → ℕ → ℕ
select_walk rows h n v i = select_from rows v h 0 0 n (i - 1)
