-- M-106's sentences (`model/specs/RankSetDemand`), from the promises of `rank_set` and `rank_set_opened`, and of the question for one document.
use Prim.Native.Nat.{ℕ}
use mathlib.Core.Path.{◌≡◌, sym, subst₂, fun_ext}
use mathlib.Core.List.{List}
use Rattle.std.specs.Prelude.{Result}
use Rattle.model.specs.Outcome.{Outcome, answered}
use Rattle.model.specs.Format.{Sizes}
use Rattle.model.specs.Opening.{contents, opening}
use Rattle.model.specs.Queries.{rank_result}
use Rattle.model.specs.RankSet.{rank_set_result}
use Rattle.model.specs.RankSetDemand.{RankSetDemand}
use Rattle.model.proofs.Format.WriteBack as read
use Rattle.model.proofs.RankSet.Demand.{rank-set_demand}
use Rattle.refusals.specs.declared.Refusal.{Refusal}
use Rattle.answers.specs.Answers.{number_of}

-- for every accepted archive: what is answered for each document, each set and each place
pub demanded : (bytes : List ℕ) (s : Sizes) → opening bytes ≡ answered s → (one : ℕ → ℕ → Result ℕ Refusal) (many : List ℕ → ℕ → Result ℕ Refusal)
    → ((d p : ℕ) → number_of (one d p) ≡ rank_result bytes d p) → ((set : List ℕ) (p : ℕ) → number_of (many set p) ≡ rank_set_result bytes set p)
    → RankSetDemand (contents bytes) (λ d p. number_of (one d p)) (λ set p. number_of (many set p))
demanded bytes s archive one many promised promise =
    subst₂ (λ (f : ℕ → ℕ → Outcome ℕ) (g : List ℕ → ℕ → Outcome ℕ). RankSetDemand (contents bytes) f g)
    (fun_ext (λ d. fun_ext (λ p. sym (promised d p)))) (fun_ext (λ set. fun_ext (λ p. sym (promise set p))))
    (rank-set_demand bytes (contents bytes) (read.contents_valid bytes (read.accepted bytes s archive).0) (rw archive))
