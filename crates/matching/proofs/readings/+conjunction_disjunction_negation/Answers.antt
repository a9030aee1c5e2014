-- The cycle of calls {conjunction, disjunction, negation}: each return and each turn of a loop is a law of PartsRead.
-- Assumes nothing.
use native.Mathlib.Omega.{arith}
use Rattle.std.proofs.Common.{◌+◌}
use mathlib.Core.Path.{sym, ◌∙◌}
use Rattle.matching.specs.Sets.{set_at}
use Rattle.matching.specs.Parsing.{number_at, closed}
use Rattle.matching.specs.declared.Parse.TheVariants.{Parsed}
use Rattle.matching.proofs.PartsRead.{of_term, of_other, of-nots, of-nots-unread, of_too_deep, of_bracket, conjoining_first, conjoining_more, disjoining_first, disjoining_more}
use Rattle.matching.proofs.readings.+conjunction_disjunction_negation.Goals as goal

pub conjunction-loop-second-init : goal.conjunction-loop-second-init
conjunction-loop-second-init t c =
    let s = c.args in
    conjoining_first (set_at s.masks.now s.block) s.question.now s.at s.deeper c.negation-parse.result c.negation-parse.ensures

pub conjunction-loop-second-preserved : goal.conjunction-loop-second-preserved
conjunction-loop-second-preserved t c =
    let s = c.args in
    let l = c.loop-second in
    let n = rw c.after_mark.ensures at c.negation-second.ensures in
    rw c.both-parse.ensures
    (conjoining_more (set_at s.masks.now s.block) s.question.now s.at s.deeper l.parse c.negation-second.result l.invariant (sym c.goes_on.ensures ∙ c.loop-second-test.true) n)

pub disjunction-loop-second-init : goal.disjunction-loop-second-init
disjunction-loop-second-init t c =
    let s = c.args in
    disjoining_first (set_at s.masks.now s.block) s.question.now s.at s.deeper c.conjunction-parse.result c.conjunction-parse.ensures

pub disjunction-loop-second-preserved : goal.disjunction-loop-second-preserved
disjunction-loop-second-preserved t c =
    let s = c.args in
    let l = c.loop-second in
    let n = rw c.after_mark.ensures at c.conjunction-second.ensures in
    rw c.either-parse.ensures
    (disjoining_more (set_at s.masks.now s.block) s.question.now s.at s.deeper l.parse c.conjunction-second.result l.invariant (sym c.goes_on.ensures ∙ c.loop-second-test.true) n)

pub negation-returns-then-number-lt4096 : goal.negation-returns-then-number-lt4096
negation-returns-then-number-lt4096 t c =
    let s = c.args in
    let nots = c.after_nots-place in
    let number = c.number_at-number.ensures in
    let operand = of_term (set_at s.masks.now s.block) s.question.now nots.result s.deeper (omega (arith, number, c.if-number-lt4096.true)) in
    rw (c.deny.ensures, c.mask_of.ensures, number) (of-nots (set_at s.masks.now s.block) s.question.now s.deeper s.at nots.result nots.ensures
    (Parsed (set_at s.masks.now s.block (number_at s.question.now nots.result)) (nots.result + 1)) operand)

pub negation-returns-then-deeper-eq0 : goal.negation-returns-then-deeper-eq0
negation-returns-then-deeper-eq0 t c =
    let s = c.args in
    let nots = c.after_nots-place in
    let number = c.number_at-number.ensures in
    of-nots-unread (set_at s.masks.now s.block) s.question.now s.deeper s.at nots.result nots.ensures
    (of_too_deep (set_at s.masks.now s.block) s.question.now nots.result s.deeper c.if-deeper-eq0.true (sym number ∙ c.if-number.true))

pub negation-returns-else-deeper-eq0 : goal.negation-returns-else-deeper-eq0
negation-returns-else-deeper-eq0 t c =
    let s = c.args in
    let nots = c.after_nots-place in
    let number = c.number_at-number.ensures in
    let inside = c.disjunction-inside in
    rw (c.deny-else-deeper-eq0.ensures, c.close.ensures)
    (of-nots (set_at s.masks.now s.block) s.question.now s.deeper s.at nots.result nots.ensures (closed s.question.now inside.result)
    (of_bracket (set_at s.masks.now s.block) s.question.now nots.result s.deeper (sym number ∙ c.if-number.true) c.if-deeper-eq0.false inside.result inside.ensures))

pub negation-returns-else-number : goal.negation-returns-else-number
negation-returns-else-number t c =
    let s = c.args in
    let nots = c.after_nots-place in
    let number = c.number_at-number.ensures in
    of-nots-unread (set_at s.masks.now s.block) s.question.now s.deeper s.at nots.result nots.ensures
    (of_other (set_at s.masks.now s.block) s.question.now nots.result s.deeper (omega (arith, number, c.if-number-lt4096.false)) nots.ensures.no_more (λ e. c.if-number.false (number ∙ e)))
