-- What the contracts of select cite: how far a search has come.
use Rattle.std.specs.Prelude.{◌≡◌, Bool, true, false, List, ℕ, ◌+◌, ◌-◌, ◌*◌, ◌/◌, ◌^◌, ◌≤◌, ◌<◌}
use Rattle.bits.specs.Bits.{row_bytes}
use Rattle.bits.specs.Rows.{count_below, word_at}
use Rattle.bits.specs.Sequences.{bit}
use Rattle.bits.specs.declared.row.Row.{Row}

-- a search in a row for the j-th bit that is v has reached a place: fewer than j such bits stand before it
pub record Reached (row : Row) (v : Bool) (j place before : ℕ) : Type 0 where
  pub within : place ≤ 8 * row_bytes row.n
  pub counted : count_below (bit v) row.bits.now place ≡ before
  pub fewer : before < j

-- x where a test holds, else 0
abbrev pub times_of : Bool → ℕ → ℕ
times_of true x = x
times_of false x = 0

-- the same inside the word at byte k, which has the given bits from the place on, at least so many
pub record InWord (v : Bool) (row : List ℕ) (k j many bits place before : ℕ) : Type 0 where
  pub small : k < 2 ^ 32
  pub after : 8 * k ≤ place
  pub room : place + many ≤ 8 * k + 64
  pub left : bits ≡ word_at row k / 2 ^ (place - 8 * k)
  pub counted : count_below (bit v) row place ≡ before
  pub fewer : before < j
