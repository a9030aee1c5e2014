-- What functions that write pairs leave.
use Rattle.std.specs.Prelude.{ℕ, ◌+◌, ◌*◌, ◌≡◌, List, length}
use Rattle.std.proofs.lemmas.List.Edits.{sets}
use Rattle.model.specs.Lists.{overwrite}
use Rattle.model.specs.Queries.{Pair, flat, Placed, flat_placed}

-- these pairs stand in the slice from pair number `at` on, the rest is as before, and the next pair is number r
pub record Written (ps : List Pair) (at : ℕ) (before after : List ℕ) (r : ℕ) : Type 0 where
  pub next : r ≡ at + length ps
  pub stored : after ≡ sets before (2 * at) (flat ps)

-- so many pairs are answered; they stand in the front of the slice, and the rest is as before
abbrev pub Lists : List Pair → ℕ → List ℕ → List ℕ → Type 0
Lists ps r before after = (r ≡ length ps) × (after ≡ overwrite (flat ps) before)

-- the same with their places (M-108)
abbrev pub ListsPlaced : Placed → ℕ → List ℕ → List ℕ → Type 0
ListsPlaced ps r before after = (r ≡ length ps.pairs) × (after ≡ overwrite (flat_placed ps.place ps.pairs) before)
