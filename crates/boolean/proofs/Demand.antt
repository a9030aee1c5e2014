-- M-104's sentences (`model/specs/BooleanDemand`), from the promise of `boolean` and `boolean_opened`.
use Prim.Native.Nat.{ℕ}
use mathlib.Core.Path.{◌≡◌, sym, subst}
use mathlib.Core.List.{List}
use Rattle.model.specs.Outcome.{answered}
use Rattle.model.specs.Format.{Sizes}
use Rattle.model.specs.Opening.{contents, opening}
use Rattle.model.specs.Queries.{PairsResult}
use Rattle.model.specs.Boolean.{boolean_result}
use Rattle.model.specs.BooleanDemand.{BooleanDemand}
use Rattle.model.proofs.Boolean.Demand.{boolean_demand}
use Rattle.std.specs.Prelude.{Result}
use Rattle.refusals.specs.declared.Refusal.{Refusal}
use Rattle.answers.specs.Answers.{pairs_of}

-- for every accepted archive `bytes`, question and answer slice, whatever stands in it: the answer, and what the slice holds after it
pub demanded : (bytes : List ℕ) (s : Sizes) → opening bytes ≡ answered s → (question out : List ℕ) (answer : Result ℕ Refusal) (after : List ℕ)
    → pairs_of answer after ≡ boolean_result bytes question out
    → BooleanDemand (contents bytes) question out (pairs_of answer after)
demanded bytes s archive question out answer after promise =
    subst (λ (r : PairsResult). BooleanDemand (contents bytes) question out r) (sym promise)
    (boolean_demand bytes (contents bytes) (rw archive) question out)
