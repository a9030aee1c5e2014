-- What is known of an outcome where the result is an answer, and where it is a refusal.
use mathlib.Core.Path.{◌≡◌, sym, ap, ◌∙◌}
use Rattle.std.specs.Prelude.{Result, Ok, Err}
use Rattle.std.specs.Result.{IsErrAnd}
use Rattle.std.proofs.lemmas.Result.{err_from_is_err_and}
use Rattle.model.specs.Outcome.{Outcome, answered, refused}
use Rattle.refusals.specs.declared.Refusal.{Refusal}
use Rattle.refusals.specs.Refusals.{refusal_number, outcome_by}

module _ {T A : Type 0} (value : T → A) {r : Result T Refusal} {o : Outcome A} where
  -- the answer's value, where there is one
  pub answered_by : outcome_by value r ≡ o → {x : T} → r ≡ Ok x → o ≡ answered (value x)
  answered_by outcome e = sym outcome ∙ ap (outcome_by value) e

  -- the refusal's number, where it is refused
  pub refused_by : outcome_by value r ≡ o → {refusal : Refusal} → r ≡ Err refusal → o ≡ refused (refusal_number refusal)
  refused_by outcome e = sym outcome ∙ ap (outcome_by value) e

-- a refusal that `?` passes on
pub passed_on : {T A : Type 0} (value : T → A) (r : Result T Refusal) (refusal : Refusal) {o : Outcome A} → IsErrAnd r (λ x. x ≡ refusal)
    → refused (refusal_number refusal) ≡ o → outcome_by value r ≡ o
passed_on value r refusal is e =
    let p = err_from_is_err_and r is in
    ap (outcome_by value) p.1 ∙ (ap (λ x. refused (refusal_number x)) p.2 ∙ e)
