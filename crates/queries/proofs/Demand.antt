-- M-105's sentences (`model/specs/RateDemand`), from the promise of `per_mille`.
use Prim.Native.Nat.{ℕ}
use mathlib.Core.Path.{◌≡◌, sym, subst}
use Rattle.std.specs.Prelude.{Result}
use Rattle.model.specs.Outcome.{Outcome}
use Rattle.model.specs.Queries.{per_mille_result}
use Rattle.model.specs.RateDemand.{RateDemand}
use Rattle.model.proofs.Rate.{rate_demand}
use Rattle.refusals.specs.declared.Refusal.{Refusal}
use Rattle.answers.specs.Answers.{number_of}

-- for every count and every size
pub demanded : (count size : ℕ) (answer : Result ℕ Refusal) → number_of answer ≡ per_mille_result count size → RateDemand count size (number_of answer)
demanded count size answer promise = subst (λ (r : Outcome ℕ). RateDemand count size r) (sym promise) (rate_demand count size)
