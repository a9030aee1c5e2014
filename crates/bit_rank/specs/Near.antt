-- What the contracts of rank's inner functions cite: counts from the nearer end of half a block, which is four words.
use Rattle.std.specs.Prelude.{ℕ, zero, suc, ◌+◌, ◌-◌, ◌*◌, List}
use Rattle.bits.specs.Rows.{count_below}

-- x where b is 0, else 0
abbrev pub kept : ℕ → ℕ → ℕ
kept zero x = x
kept (suc b) x = 0

-- of the four words at byte k: the ones below word w from the front (h = 0), or from word w on (h = 1)
abbrev pub near_ones : ℕ → List ℕ → ℕ → ℕ → ℕ
near_ones zero row k w = count_below 1 row (8 * k + 64 * w) - count_below 1 row (8 * k)
near_ones (suc h) row k w = count_below 1 row (8 * k + 256) - count_below 1 row (8 * k + 64 * w)
