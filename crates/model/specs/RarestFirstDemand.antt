-- M-107 (document 02) as one record, a field for each of its sentences. `weighted/proofs/Demand` draws it from what `rarest_first` and `weighted` promise.
use Rattle.std.specs.Prelude.{ℕ, ◌≤◌, ◌<◌, ◌≡◌, List, length, take}
use Rattle.model.specs.Lists.{Within}
use Rattle.model.specs.Outcome.{answered, refused}
use Rattle.model.specs.Format.{Library}
use Rattle.model.specs.Distinct.{EachOnce}
use Rattle.model.specs.Queries.{PairsResult}
use Rattle.model.specs.TopK.{Node, Ended, SearchResult}
use Rattle.model.specs.RarestFirst.{RarestFirst, SameTerms, order_into}
use Rattle.model.specs.WeightedDemand.{has_entry, node_has_entry, score, node_score}

-- a question of one to eight terms
pub record IsQuestion (size : ℕ) : Type 0 where
  pub some : 1 ≤ size
  pub few : size ≤ 8

-- of a library: what the question for the order, where `lent` was lent for it, and a weighted search come to, given numbers and how many of them are the
-- question
pub record RarestFirstDemand (lib : Library) (lent : List ℕ) (order : List ℕ → ℕ → PairsResult) (weighted : List ℕ → ℕ → SearchResult Ended) : Type 0 where
  -- 10 of document 01: "no words or more than eight"
  pub none : (numbers : List ℕ) → order numbers 0 ≡ order_into lent (refused 10)
  pub too_many : (numbers : List ℕ) (size : ℕ) → 8 < size → order numbers size ≡ order_into lent (refused 10)
  -- 11: "a word W or more", of all that were given
  pub unknown : (numbers : List ℕ) (size : ℕ) → IsQuestion size → (Within (length lib.lengths) (take size numbers) → ⊥)
      → order numbers size ≡ order_into lent (refused 11)
  -- "this order is promised, and that it holds each different word of the question once and no other": the order is answered, it is so, and no other list is
  pub in_rarest_order : List ℕ → List ℕ
  pub answer : (numbers : List ℕ) (size : ℕ) → IsQuestion size → Within (length lib.lengths) (take size numbers)
      → order numbers size ≡ order_into lent (answered (in_rarest_order (take size numbers)))
  pub promised : (given : List ℕ) → RarestFirst lib given (in_rarest_order given)
  pub no_other : (given terms : List ℕ) → RarestFirst lib given terms → terms ≡ in_rarest_order given
  -- "Every score stays what M-100 and M-101 make it": of the terms as M-101 keeps them, in the order of first appearance, whatever they weigh. So do the
  -- documents and nodes with an entry
  pub scores_stay : (given kept : List ℕ) → EachOnce given kept → (weight_of : ℕ → ℕ) (d : ℕ) → score lib (in_rarest_order given) weight_of d ≡ score lib kept weight_of d
  pub entries_stay : (given kept : List ℕ) → EachOnce given kept → (d : ℕ) → has_entry lib (in_rarest_order given) d ≡ has_entry lib kept d
  pub node_scores_stay : (given kept : List ℕ) → EachOnce given kept → (weight_of : ℕ → ℕ) (n : Node)
      → node_score lib (in_rarest_order given) weight_of n ≡ node_score lib kept weight_of n
  pub node_entries_stay : (given kept : List ℕ) → EachOnce given kept → (n : Node) → node_has_entry lib (in_rarest_order given) n ≡ node_has_entry lib kept n
  -- "whichever way the words were typed": the same terms in another order, or repeated otherwise, are answered and refused alike, and leave lent slices alike
  pub whichever_way : (numbers typed : List ℕ) (size long : ℕ) → IsQuestion size → IsQuestion long → SameTerms (take size numbers) (take long typed)
      → (order numbers size ≡ order typed long) × (weighted numbers size ≡ weighted typed long)
