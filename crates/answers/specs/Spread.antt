-- Pairs in the front of a slice that make room for a place each, from the last pair to the first (document 02, M-108).
use Rattle.std.specs.Prelude.{ℕ, ◌*◌, ◌≡◌, List, ◌++◌, length, take, drop, ltb, eqb}
use Rattle.bits.specs.Sequences.{occurrences}
use Rattle.model.specs.Lists.{Every}
use Rattle.model.specs.Queries.{Pair, pairs_in, flat_placed}

-- each pair's document has an entry among xs
abbrev pub Occurring : List ℕ → List Pair → Type 0
Occurring xs = Every (λ p. ltb 0 (occurrences p.document xs))

-- and its count is how many
abbrev pub Counted : List ℕ → List Pair → Type 0
Counted xs ps = Occurring xs ps × Every (λ p. eqb p.count (occurrences p.document xs)) ps

-- of n pairs those from number i on are three numbers each; the others stand where they stood, and behind the last nothing has changed
pub record Spread (place : ℕ → ℕ) (n i : ℕ) (before after : List ℕ) : Type 0 where
  pub size : length after ≡ length before
  pub front : take (2 * i) after ≡ take (2 * i) before
  pub back : drop (3 * i) after ≡ flat_placed place (drop i (pairs_in before n)) ++ drop (3 * n) before
