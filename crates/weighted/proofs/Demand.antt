-- M-100's sentences (`model/specs/WeightedDemand`), from the promise of `weighted` and `weighted_opened`, and M-107's (`model/specs/RarestFirstDemand`),
-- from theirs and those of `rarest_first` and `rarest_first_opened`.
use Prim.Native.Nat.{ℕ}
use mathlib.Core.Path.{◌≡◌, sym, subst₂, fun_ext}
use mathlib.Core.List.{List}
use lib.ListN.{length, take}
use Rattle.model.specs.Outcome.{answered}
use Rattle.model.specs.Format.{Sizes}
use Rattle.model.specs.Opening.{contents, opening}
use Rattle.model.specs.Queries.{PairsResult}
use Rattle.model.specs.TopK.{Ended, SearchResult}
use Rattle.model.specs.RarestFirst.{rarest_first_result}
use Rattle.model.specs.Weighted.{weighted_result}
use Rattle.model.specs.Demand3.{Room}
use Rattle.model.specs.WeightedDemand.{WeightedDemand}
use Rattle.model.specs.RarestFirstDemand.{RarestFirstDemand}
use Rattle.model.proofs.Weighted.Demand.{weighted_demand}
use Rattle.model.proofs.RarestFirst.Demand.{rarest_first_demand}
use Rattle.std.specs.Prelude.{Result}
use Rattle.refusals.specs.declared.Refusal.{Refusal}
use Rattle.answers.specs.Answers.{pairs_of}
use Rattle.paths.specs.declared.terms.Terms.{Terms}
use Rattle.paths.specs.Chosen.{Asked}
use Rattle.moves.specs.declared.Ended as code
use Rattle.moves.specs.Results.{top_k_is}

-- for every accepted archive `bytes`, one to eight terms that it has, k and allowance, and whatever stands in lent slices as long as is asked: the
-- answer, and what the slices hold after it
pub demanded : (bytes : List ℕ) (s : Sizes) → opening bytes ≡ answered s → (q : Terms) → Asked (length (contents bytes).lengths) q
    → (k allowance : ℕ) (out work : List ℕ) → Room 2 (contents bytes).documents k out work
    → (answer : Result code.Ended Refusal) (after working : List ℕ)
    → top_k_is answer after working ≡ weighted_result bytes q.numbers q.size k allowance out work
    → WeightedDemand (contents bytes) (take q.size q.numbers) k allowance out work (top_k_is answer after working)
demanded bytes s archive q asked k allowance out work room answer after working =
    weighted_demand bytes s archive q.numbers q.size asked.some asked.few asked.known k allowance out work room
    (top_k_is answer after working)

-- M-107's sentences: of every accepted archive, whatever was lent, what is answered to each question for the order and to each weighted search
pub rarest_first_demanded : (bytes : List ℕ) (s : Sizes) → opening bytes ≡ answered s → (lent : List ℕ) (k allowance : ℕ) (out work : List ℕ)
    → (order : List ℕ → ℕ → Result ℕ Refusal) (after : List ℕ → ℕ → List ℕ)
    → ((numbers : List ℕ) (size : ℕ) → pairs_of (order numbers size) (after numbers size) ≡ rarest_first_result bytes numbers size lent)
    → (found : List ℕ → ℕ → Result code.Ended Refusal) (listed working : List ℕ → ℕ → List ℕ)
    → ((numbers : List ℕ) (size : ℕ)
    → top_k_is (found numbers size) (listed numbers size) (working numbers size) ≡ weighted_result bytes numbers size k allowance out work)
    → RarestFirstDemand (contents bytes) lent (λ numbers size. pairs_of (order numbers size) (after numbers size))
    (λ numbers size. top_k_is (found numbers size) (listed numbers size) (working numbers size))
rarest_first_demanded bytes s archive lent k allowance out work order after promised found listed working promise =
    subst₂ (λ (f : List ℕ → ℕ → PairsResult) (g : List ℕ → ℕ → SearchResult Ended). RarestFirstDemand (contents bytes) lent f g)
    (fun_ext (λ numbers. fun_ext (λ size. sym (promised numbers size)))) (fun_ext (λ numbers. fun_ext (λ size. sym (promise numbers size))))
    (rarest_first_demand bytes (contents bytes) (rw archive) lent k allowance out work)
