-- `weighted_opened`: each refusal where it applies, else what the search found.
use Prim.Native.Nat.{ℕ, ◌*◌, ◌≤◌, ◌<◌, min}
use native.Mathlib.Omega.{arith}
use mathlib.Core.Path.{refl, sym, ap, ◌∙◌, subst}
use mathlib.Core.List.{List}
use lib.ListN.{length}
use Rattle.model.specs.Lists.{Sorted}
use Rattle.model.specs.Outcome.{Outcome, answered}
use Rattle.model.specs.Opening.{contents}
use Rattle.model.specs.RarestFirst.{rarer, rarest_first}
use Rattle.model.specs.Weighted.{weighted_found}
use Rattle.model.specs.TopK.{Ended, Found, SearchResult, found_into}
use Rattle.model.proofs.RarestFirst.Order.{rarest_first_lem}
use Rattle.archive.specs.declared.Layout.{Layout}
use Rattle.archive.proofs.Opened.{fitting}
use Rattle.refusals.proofs.Outcomes.{passed_on}
use Rattle.paths.specs.declared.query.Query.{Query}
use Rattle.paths.specs.Chosen.{Chosen}
use Rattle.rarest_first.proofs.Results.{terms_in_order}
use Rattle.weighted.proofs.Answers.{found-answer}
use Rattle.weighted.proofs.Refusals.{weighted_refused, answers-short, work_short, accepted}
use Rattle.weighted.proofs.question.weighted_opened.Goals as goal

pub returns-in_err-given : goal.returns-in_err-given
returns-in_err-given c =
    let g = c.args in
    let a = g.archive.now in
    let answer : Outcome Ended → SearchResult Ended = λ o. record { outcome = o; answers = g.answers.now; work = g.work.now } in
    ap answer (passed_on _ c.from_residual.result c.in_err-given.field-0.0 c.from_residual.ensures.1 refl)
    ∙ weighted_refused a.bytes.now a.layout a.opened g.q.numbers g.q.size g.k g.allowance g.answers.now g.work.now _ c.in_err-given.ensures.outcome

pub returns-then-answers-min : goal.returns-then-answers-min
returns-then-answers-min c =
    let g = c.args in
    let a = g.archive.now in
    answers-short a.bytes.now a.layout a.opened g.q.numbers g.q.size g.k g.allowance g.answers.now g.work.now c.in_ok-given.given.terms.now c.in_ok-given.ensures.outcome
    (subst (λ (n : ℕ). length g.answers.now < 2 * n) c.min.ensures c.if-answers-min.true)

pub overflow_mul-archive : goal.overflow_mul-archive
overflow_mul-archive c =
    let a = c.args.archive.now in
    omega (arith, (fitting a.bytes.now a.layout a.opened).documents)

pub returns-then-work-archive : goal.returns-then-work-archive
returns-then-work-archive c =
    let g = c.args in
    let a = g.archive.now in
    work_short a.bytes.now a.layout a.opened g.q.numbers g.q.size g.k g.allowance g.answers.now g.work.now c.in_ok-given.given.terms.now c.in_ok-given.ensures.outcome
    (subst (λ (n : ℕ). 2 * n ≤ length g.answers.now) c.min.ensures c.if-answers-min.false) c.if-work-archive.true

pub invariant_of-query : goal.invariant_of-query
invariant_of-query c =
    record { chosen = subst (Chosen c.in_ok-given.given.archive.layout.terms) (sym c.as_slice.ensures) c.rarest_first_in-order.ensures.chosen }

pub weighted_in-requires : goal.weighted_in-requires
weighted_in-requires c =
    let g = c.args in
    let given = c.in_ok-given.given in
    let order = c.rarest_first_in-order in
    let shelf = contents given.archive.bytes.now in
    let e = c.as_slice.ensures ∙ terms_in_order (rarest_first shelf given.terms.now) order.result order.ensures.order in (
      subst (λ (l : Layout). 2 * min g.k l.documents ≤ length g.answers.now) (sym c.in_ok-given.ensures.same.1)
          (subst (λ (n : ℕ). 2 * n ≤ length g.answers.now) c.min.ensures c.if-answers-min.false),
      subst (λ (l : Layout). 4 * l.documents ≤ length g.work.now) (sym c.in_ok-given.ensures.same.1) c.if-work-archive.false,
      subst (Sorted (rarer shelf)) (sym e) (rarest_first_lem shelf given.terms.now).ascending,
    )

pub returns : goal.returns
returns c =
    let g = c.args in
    let a = g.archive.now in
    let given = c.in_ok-given.given in
    let k = c.in_ok-given.ensures in
    let order = c.rarest_first_in-order in
    let e = c.as_slice.ensures ∙ terms_in_order (rarest_first (contents given.archive.bytes.now) given.terms.now) order.result order.ensures.order in
    let query : Query = record { archive = given.archive; terms = c.as_slice.result; chosen = subst (Chosen given.archive.layout.terms) (sym c.as_slice.ensures) order.ensures.chosen } in
    c.weighted_in.ensures
    ∙ ap (λ (f : Found Ended). found_into g.answers.now g.work.now (answered f))
    (found-answer query g.k g.allowance
    ∙ ap (λ (ts : List ℕ). weighted_found (contents given.archive.bytes.now) ts g.k g.allowance) e
    ∙ (λ i. weighted_found (contents (k.same.0 i)) (rarest_first (contents (k.same.0 i)) (k.same.2 i)) g.k g.allowance))
    ∙ accepted a.bytes.now a.layout a.opened g.q.numbers g.q.size g.k g.allowance g.answers.now g.work.now given.terms.now k.outcome
    (subst (λ (n : ℕ). 2 * n ≤ length g.answers.now) c.min.ensures c.if-answers-min.false) c.if-work-archive.false
