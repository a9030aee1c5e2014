-- `weighted`: the opening is refused, or the question is that of the opened archive.
use Prim.Native.Nat.{ℕ}
use mathlib.Core.Path.{◌≡◌, refl, ap, subst}
use mathlib.Core.List.{List}
use Rattle.model.specs.Outcome.{Outcome}
use Rattle.model.specs.TopK.{Ended, SearchResult}
use Rattle.model.specs.Weighted.{weighted_result}
use Rattle.moves.specs.Results.{top_k_is}
use Rattle.refusals.proofs.Outcomes.{passed_on}
use Rattle.weighted.proofs.question.weighted.Goals as goal

pub returns-in_err-opened : goal.returns-in_err-opened
returns-in_err-opened c =
    let answer : Outcome Ended → SearchResult Ended = λ o. record { outcome = o; answers = c.args.answers.now; work = c.args.work.now } in
    rw (← c.in_err-opened.ensures.outcome) (ap answer (passed_on _ c.from_residual.result c.in_err-opened.field-0.0 c.from_residual.ensures.1 refl))

pub returns : goal.returns
returns c =
    let g = c.args in
    let r = c.weighted_opened in
    subst (λ (b : List ℕ). top_k_is r.result r.new.answers r.new.work ≡ weighted_result b g.q.numbers g.q.size g.k g.allowance g.answers.now g.work.now) c.in_ok-opened.ensures.same r.ensures
