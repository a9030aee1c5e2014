-- The weights of the terms of a question.
use Rattle.std.specs.Prelude.{ℕ, ◌<◌, ◌≡◌, List, length, get_or}
use Rattle.model.specs.Opening.{contents}
use Rattle.model.specs.Weighted.{weighed_term}

-- as the code keeps them, one for each of the terms
abbrev pub Weighs : List ℕ → List ℕ → List ℕ → Type 0
Weighs bytes terms weights = (k : ℕ) → k < length terms → get_or weights k 0 ≡ (weighed_term (contents bytes) (get_or terms k 0)).weight
