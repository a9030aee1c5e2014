use Prim.Native.Nat.{ℕ}
use native.Mathlib.Omega.{arith}
use mathlib.Core.Path.{◌≡◌, refl, sym, ap, ◌∙◌, subst}
use mathlib.Core.List.{List}
use Rattle.model.specs.Outcome.{Outcome}
use Rattle.model.specs.Opening.{contents}
use Rattle.model.specs.Distinct.{distinct, Different}
use Rattle.model.specs.Queries.{PairsResult, conjunction}
use Rattle.model.proofs.Distinct.{distinct_different}
use Rattle.archive.specs.declared.Layout.{Layout}
use Rattle.archive.proofs.Opened.{fitting, documents-are}
use Rattle.answers.specs.Written.{Lists}
use Rattle.refusals.proofs.Outcomes.{passed_on}
use Rattle.distinct_terms.proofs.Keeping.{chosen_distinct}
use Rattle.conjunction.proofs.Walks.{found_le}
use Rattle.conjunction.proofs.Refusals.{conjunction_refused, conjunction_short, conjunction_answered}
use Rattle.conjunction.proofs.conjunctions.conjunction_opened.Goals as goal

pub returns-in_err-given : goal.returns-in_err-given
returns-in_err-given c =
    let a = c.args.archive.now in
    let answer : Outcome ℕ → PairsResult = λ o. record { outcome = o; answers = c.args.answers.now } in
    ap answer (passed_on _ c.from_residual.result c.in_err-given.field-0.0 c.from_residual.ensures.1 refl)
    ∙ conjunction_refused a.bytes.now a.layout a.opened c.args.q.numbers c.args.q.size c.args.answers.now _ c.in_err-given.ensures.outcome

pub overflow_mul-archive : goal.overflow_mul-archive
overflow_mul-archive c =
    let a = c.args.archive.now in
    omega (arith, (fitting a.bytes.now a.layout a.opened).documents)

pub returns-then-answers-archive : goal.returns-then-answers-archive
returns-then-answers-archive c =
    let a = c.args.archive.now in
    conjunction_short a.bytes.now a.layout a.opened c.args.q.numbers c.args.q.size c.args.answers.now c.in_ok-given.given.terms.now c.in_ok-given.ensures.outcome c.if-answers-archive.true

pub invariant_of-query : goal.invariant_of-query
invariant_of-query c =
    let given = c.in_ok-given.given in
    record { chosen = chosen_distinct given.archive.layout.terms given.terms.now c.as_slice.result.now given.chosen (c.as_slice.ensures ∙ c.distinct-kept.ensures) }

pub conjunction_in-requires : goal.conjunction_in-requires
conjunction_in-requires c =
    let given = c.in_ok-given.given in
    let e = c.as_slice.ensures ∙ c.distinct-kept.ensures in
    (omega (arith, ap (λ (l : Layout). l.documents) c.in_ok-given.ensures.same.1, c.if-answers-archive.false), subst Different (sym e) (distinct_different given.terms.now))

pub overflow_cast-result : goal.overflow_cast-result
overflow_cast-result c =
    let a = c.in_ok-given.given.archive in
    omega (
      arith,
      c.conjunction_in.ensures.0,
      found_le (contents a.bytes.now) c.as_slice.result.now (contents a.bytes.now).documents,
      documents-are a.bytes.now a.layout a.opened,
      (fitting a.bytes.now a.layout a.opened).documents,
    )

-- the conjunction of the kept terms is that of what was asked
moved : {b bytes ts terms kept : List ℕ} (r : ℕ) (before after : List ℕ) → b ≡ bytes → ts ≡ terms → kept ≡ distinct ts → Lists (conjunction (contents b) kept) r before after
    → Lists (conjunction (contents bytes) (distinct terms)) r before after
moved {b} {bytes} {ts} {terms} {kept} r before after e f g o =
    subst (λ (b : List ℕ). Lists (conjunction (contents b) (distinct terms)) r before after) e
    (subst (λ (xs : List ℕ). Lists (conjunction (contents b) xs) r before after) (g ∙ ap distinct f) o)

pub returns : goal.returns
returns c =
    let a = c.args.archive.now in
    let k = c.in_ok-given.ensures in
    let found = moved c.conjunction_in.result c.args.answers.now c.conjunction_in.new.answers k.same.0 k.same.2 (c.as_slice.ensures ∙ c.distinct-kept.ensures) c.conjunction_in.ensures in
    conjunction_answered a.bytes.now a.layout a.opened c.args.q.numbers c.args.q.size c.args.answers.now c.in_ok-given.given.terms.now k.outcome c.if-answers-archive.false
    c.conjunction_in.result c.conjunction_in.new.answers found.0 found.1
