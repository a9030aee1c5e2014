-- `after_nots` meets its contract; a 'not' stands within the question, so the work stops.
use native.Mathlib.Omega.{arith}
use mathlib.Core.Path.{sym, ◌∙◌}
use Rattle.matching.proofs.Onward.{within}
use Rattle.matching.proofs.PartsRead.{nots_next}
use Rattle.matching.proofs.parts.after_nots.Goals as goal

pub loop-place-init : goal.loop-place-init
loop-place-init c = (omega arith, λ i l m. absurd (omega arith))

pub overflow_add-place : goal.overflow_add-place
overflow_add-place c =
    let s = c in
    let g = s.args in
    let k = c.loop-place in
    let here = sym c.number_at.ensures ∙ c.loop-place-test.true in
    let inside = within g.question.now k.place (λ e. omega (arith, here)) in
    record { fits = omega (arith, inside, s.well_formed) }

pub loop-place-smaller : goal.loop-place-smaller
loop-place-smaller c =
    let g = c.args in
    let k = c.loop-place in
    let here = sym c.number_at.ensures ∙ c.loop-place-test.true in
    let inside = within g.question.now k.place (λ e. omega (arith, here)) in
    omega (arith, inside)

pub loop-place-preserved : goal.loop-place-preserved
loop-place-preserved c =
    let g = c.args in
    let k = c.loop-place in
    let here = sym c.number_at.ensures ∙ c.loop-place-test.true in
    (omega (arith, k.invariant.0), nots_next g.question.now g.at k.place k.invariant.0 k.invariant.1 here)

pub returns : goal.returns
returns c =
    let k = c.loop-place in
    record { onward_from = k.invariant.0; all_not = k.invariant.1; no_more = λ e. c.loop-place-test.false (c.number_at.ensures ∙ e) }
