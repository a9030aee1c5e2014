-- Ascending documents by their places, and those of a set that agree but for their last bits.
use Rattle.std.specs.Prelude.{ℕ, ◌/◌, ◌^◌, ◌≤◌, ◌<◌, ◌≡◌, List, length, get_or}

-- each is below all that follow it
abbrev pub Ascends : List ℕ → Type 0
Ascends set = (i k : ℕ) → i < k → k < length set → get_or set i 0 < get_or set k 0

-- the first so many agree with the first of all, and what follows them does not
pub record Front (set : List ℕ) (bits size : ℕ) : Type 0 where
  pub some : 0 < size
  pub inside : size ≤ length set
  pub agree : (i : ℕ) → i < size → get_or set i 0 / 2 ^ bits ≡ get_or set 0 0 / 2 ^ bits
  pub differs : size < length set → get_or set size 0 / 2 ^ bits ≡ get_or set 0 0 / 2 ^ bits → ⊥
