-- M-106 (document 02) as one record, a field for each of its sentences. `rank_set/proofs/Demand` draws it from what the operation promises.
use Rattle.std.specs.Prelude.{ℕ, ◌+◌, ◌≤◌, ◌<◌, ◌≡◌, List, [], ◌∷◌, map, true, false, length}
use Rattle.bits.specs.Bits.{sum}
use Rattle.bits.specs.Sequences.{below, rank}
use Rattle.model.specs.Lists.{Within}
use Rattle.model.specs.Outcome.{Outcome, answered, refused}
use Rattle.model.specs.Format.{Library}
use Rattle.model.specs.RankSet.{ascending, Disjoint, union}

-- "a set of up to 64 sheets, strictly ascending"
pub record IsSet (set : List ℕ) : Type 0 where
  pub few : length set ≤ 64
  pub ascends : ascending set ≡ true

-- a set of the library's documents
pub record SetOf (lib : Library) (set : List ℕ) : Type 0 where
  pub is_set : IsSet set
  pub known : Within lib.documents set

-- of a library: what the question for one document and the question for a set come to, given the document or the set, and the place
pub record RankSetDemand (lib : Library) (one : ℕ → ℕ → Outcome ℕ) (many : List ℕ → ℕ → Outcome ℕ) : Type 0 where
  -- "It refuses as 19, .. before 11, a set that is too long ..
  pub too_long : (set : List ℕ) (p : ℕ) → 64 < length set → many set p ≡ refused 19
  -- .. or not strictly ascending"
  pub not_ascending : (set : List ℕ) (p : ℕ) → ascending set ≡ false → many set p ≡ refused 19
  -- and no other
  pub never_19 : (set : List ℕ) (p : ℕ) → IsSet set → many set p ≡ refused 19 → ⊥
  -- 11 of document 01: "a sheet N or more, .. p > n"
  pub unknown : (set : List ℕ) (p : ℕ) → IsSet set → (Within lib.documents set → ⊥) → many set p ≡ refused 11
  pub beyond : (set : List ℕ) (p : ℕ) → IsSet set → length lib.entries < p → many set p ≡ refused 11
  -- "how many entries there belong to the set, each once": the sum of the counts of its documents
  pub answer : (set : List ℕ) (p : ℕ) → SetOf lib set → p ≤ length lib.entries → many set p ≡ answered (sum (map (λ d. rank d lib.entries p) set))
  -- "An empty set counts 0 ..
  pub empty : (p : ℕ) → p ≤ length lib.entries → many [] p ≡ answered 0
  -- .. and the whole library, where it has 64 sheets or fewer, counts p"
  pub whole : (p : ℕ) → lib.documents ≤ 64 → p ≤ length lib.entries → many (below lib.documents) p ≡ answered p
  -- "as well as one": a set of one counts as the question for it does, and is refused as it is
  pub single : (d p : ℕ) → many (d ∷ []) p ≡ one d p
  -- two sets without a document in common, joined, count the sum
  pub joined : (set other : List ℕ) (p c e : ℕ) → Disjoint set other → length set + length other ≤ 64
      → many set p ≡ answered c → many other p ≡ answered e → many (union set other) p ≡ answered (c + e)
