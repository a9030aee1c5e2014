use Prim.Native.Nat.{ℕ}
use mathlib.Core.Path.{◌≡◌, refl, ap, subst}
use mathlib.Core.List.{List}
use Rattle.model.specs.Outcome.{Outcome}
use Rattle.model.specs.Queries.{PairsResult, conjunction_result}
use Rattle.answers.specs.Answers.{pairs_of}
use Rattle.refusals.proofs.Outcomes.{passed_on}
use Rattle.conjunction.proofs.conjunctions.conjunction.Goals as goal

pub returns-in_err-opened : goal.returns-in_err-opened
returns-in_err-opened c =
    let answer : Outcome ℕ → PairsResult = λ o. record { outcome = o; answers = c.args.answers.now } in
    rw (← c.in_err-opened.ensures.outcome) (ap answer (passed_on _ c.from_residual.result c.in_err-opened.field-0.0 c.from_residual.ensures.1 refl))

pub returns : goal.returns
returns c =
    let r = c.conjunction_opened in
    subst (λ (b : List ℕ). pairs_of r.result r.new.answers ≡ conjunction_result b c.args.q.numbers c.args.q.size c.args.answers.now) c.in_ok-opened.ensures.same r.ensures
