-- `rarest_first`: the opening is refused, or the question is that of the opened archive.
use Prim.Native.Nat.{ℕ}
use mathlib.Core.Path.{◌≡◌, refl, ap, subst}
use mathlib.Core.List.{List}
use Rattle.model.specs.Outcome.{Outcome}
use Rattle.model.specs.Queries.{PairsResult}
use Rattle.model.specs.RarestFirst.{rarest_first_result}
use Rattle.answers.specs.Answers.{pairs_of}
use Rattle.refusals.proofs.Outcomes.{passed_on}
use Rattle.rarest_first.proofs.question.rarest_first.Goals as goal

pub returns-in_err-opened : goal.returns-in_err-opened
returns-in_err-opened c =
    let answer : Outcome ℕ → PairsResult = λ o. record { outcome = o; answers = c.args.order.now } in
    rw (← c.in_err-opened.ensures.outcome) (ap answer (passed_on _ c.from_residual.result c.in_err-opened.field-0.0 c.from_residual.ensures.1 refl))

pub returns : goal.returns
returns c =
    let r = c.rarest_first_opened in
    subst (λ (b : List ℕ). pairs_of r.result r.new.order ≡ rarest_first_result b c.args.q.numbers c.args.q.size c.args.order.now) c.in_ok-opened.ensures.same r.ensures
