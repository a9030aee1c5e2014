-- A refusal that `?` passes on, of a question that writes pairs: the slice keeps what it holds.
use Prim.Native.Nat.{ℕ}
use mathlib.Core.Path.{◌≡◌, ap, ◌∙◌}
use mathlib.Core.List.{List}
use Rattle.std.specs.Prelude.{Result}
use Rattle.std.specs.Result.{IsErrAnd}
use Rattle.std.proofs.lemmas.Result.{err_from_is_err_and}
use Rattle.model.specs.Outcome.{refused}
use Rattle.model.specs.Queries.{PairsResult}
use Rattle.refusals.specs.declared.Refusal.{Refusal}
use Rattle.refusals.specs.Refusals.{refusal_number}
use Rattle.answers.specs.Answers.{pairs_of}

pub pairs_passed_on : (r : Result ℕ Refusal) (refusal : Refusal) → IsErrAnd r (λ x. x ≡ refusal) → {answers : List ℕ} {o : PairsResult}
    → record { outcome = refused (refusal_number refusal); answers = answers } ≡ o → pairs_of r answers ≡ o
pairs_passed_on r refusal is {answers} e =
    let p = err_from_is_err_and r is in
    ap (λ (r : Result ℕ Refusal). pairs_of r answers) p.1
    ∙ ap (λ x. record { outcome = refused (refusal_number x); answers = answers }) p.2 ∙ e
