-- The terms of a question, and its refusals 10 and 11. Document 01, "Refused, by place".
use Rattle.std.specs.Prelude.{ℕ, ◌≤◌, List, [], ◌∷◌, ◌||◌, length, take, leb, ltb, eqb}
use Rattle.std.specs.Coded.{×_prop, Unit-prop, le_prop}
use Rattle.model.specs.Lists.{any, Within}
use Rattle.model.specs.Outcome.{Outcome, refuse}
use Rattle.paths.specs.declared.terms.Terms.{Terms}

-- one to eight terms, all of them among the W terms
pub record Chosen (W : ℕ) (terms : List ℕ) : Type 0 where
  pub some : 1 ≤ length terms
  pub few : length terms ≤ 8
  pub known : Within W terms

pub Within-prop : (n : ℕ) (xs : List ℕ) → IsProp (Within n xs)
Within-prop n [] = Unit-prop
Within-prop n (x ∷ xs) = ×_prop le_prop (Within-prop n xs)

pub Chosen-prop : (W : ℕ) (terms : List ℕ) → IsProp (Chosen W terms)
Chosen-prop W terms = λ a b. λ i. record { some = le_prop a.some b.some i; few = le_prop a.few b.few i; known = Within-prop W terms a.known b.known i }

-- the question holds so many of the given numbers: refused where they are none or more than eight, or where one is no term, whatever it answers otherwise
abbrev pub asking : {A : Type 0} → ℕ → List ℕ → ℕ → Outcome A → Outcome A
asking W numbers size rest = refuse 10 (eqb size 0 || ltb 8 size) (refuse 11 (any (leb W) (take size numbers)) rest)

-- a question as it is asked holds one to eight terms, all of them among the W terms
pub record Asked (W : ℕ) (q : Terms) : Type 0 where
  pub some : 1 ≤ q.size
  pub few : q.size ≤ 8
  pub known : Within W (take q.size q.numbers)
