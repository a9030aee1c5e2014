-- What a question answers, as document 01's outcome. Document 01 numbers the refusals alone.
use Rattle.std.specs.Prelude.{ℕ, List, Result}
use Rattle.model.specs.Outcome.{Outcome}
use Rattle.model.specs.Queries.{PairsResult}
use Rattle.refusals.specs.declared.Refusal.{Refusal}
use Rattle.refusals.specs.Refusals.{outcome_by}

-- a number, or a refusal with its number
abbrev pub number_of : Result ℕ Refusal → Outcome ℕ
number_of = outcome_by (λ x. x)

-- how many pairs, or a refusal, and the final content of the answer slice
abbrev pub pairs_of : Result ℕ Refusal → List ℕ → PairsResult
pairs_of r answers = record { outcome = number_of r; answers = answers }
