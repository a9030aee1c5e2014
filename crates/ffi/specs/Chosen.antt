-- Terms that are chosen in a slice, as the question holds them.
use Rattle.std.specs.Prelude.{ℕ, ◌≤◌, ◌<◌, ◌≡◌, List, length, take}
use Rattle.paths.specs.declared.terms.Terms.{Terms}

-- so many terms as were chosen; of more than eight only that they are more than eight
pub record Chosen (chosen : List ℕ) (q : Terms) : Type 0 where
  pub few : length chosen ≤ 8 → (q.size ≡ length chosen) × (take q.size q.numbers ≡ chosen)
  pub many : 8 < length chosen → 8 < q.size
