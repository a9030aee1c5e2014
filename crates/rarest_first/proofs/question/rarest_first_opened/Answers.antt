-- `rarest_first_opened`: refused as it is asked, else the order.
use Prim.Native.Nat.{ℕ}
use mathlib.Core.Path.{◌≡◌, refl, ap, ap₂, ◌∙◌, subst}
use mathlib.Core.List.{List}
use Rattle.model.specs.Outcome.{Outcome, answered}
use Rattle.model.specs.Opening.{contents}
use Rattle.model.specs.Queries.{PairsResult}
use Rattle.model.specs.RarestFirst.{rarest_first}
use Rattle.refusals.proofs.Outcomes.{passed_on}
use Rattle.paths.specs.declared.terms.TermList.{TermList}
use Rattle.rarest_first.specs.Keys.{InOrder}
use Rattle.rarest_first.proofs.Results.{order_refused, ordered}
use Rattle.rarest_first.proofs.question.rarest_first_opened.Goals as goal

pub returns-in_err-query : goal.returns-in_err-query
returns-in_err-query c =
    let a = c.args.archive.now in
    let answer : Outcome ℕ → PairsResult = λ o. record { outcome = o; answers = c.args.order.now } in
    ap answer (passed_on _ c.from_residual.result c.in_err-query.field-0.0 c.from_residual.ensures.1 refl)
    ∙ order_refused a.bytes.now a.layout a.opened c.args.q.numbers c.args.q.size c.args.order.now _ c.in_err-query.ensures.outcome

-- the order of the query is that of what was asked
moved : {b bytes ts terms : List ℕ} (r : TermList) → b ≡ bytes → ts ≡ terms → InOrder (rarest_first (contents b) ts) r → InOrder (rarest_first (contents bytes) terms) r
moved {b} {bytes} {ts} {terms} r e f o =
    subst (λ (b : List ℕ). InOrder (rarest_first (contents b) terms) r) e (subst (λ (ts : List ℕ). InOrder (rarest_first (contents b) ts) r) f o)

pub returns : goal.returns
returns c =
    let a = c.args.archive.now in
    let k = c.in_ok-query.ensures in
    let r = c.rarest_first_in-first in
    let o = moved r.result k.same.0 k.same.2 r.ensures.order in
    ap₂ (λ (n : ℕ) (order : List ℕ). record { outcome = answered n; answers = order }) o.size o.numbers
    ∙ ordered a.bytes.now a.layout a.opened c.args.q.numbers c.args.q.size c.args.order.now _ k.outcome
