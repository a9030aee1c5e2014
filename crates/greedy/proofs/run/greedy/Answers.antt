-- `greedy`: the loop follows the course of the moves; at its end the answer is read off them.
use native.Mathlib.Omega.{arith}
use mathlib.Core.Path.{◌≡◌, sym, ap, ◌∙◌}
use mathlib.Core.Bool.{true, false}
use Rattle.model.specs.Outcome.{answered}
use Rattle.model.specs.TopK.{Ended, Found, found_into}
use Rattle.moves.specs.Results.{goes_on}
use Rattle.moves.proofs.Searching.{searching_begin, begun_rest, some_wait, searching_room, searching_less, searching_step, listed_le, searching_end}
use Rattle.greedy.specs.Grounds.{ground_of}
use Rattle.greedy.proofs.Grounds.{sound, found_is}
use Rattle.greedy.proofs.run.greedy.Goals as goal

pub loop-answers-init : goal.loop-answers-init
loop-answers-init c =
    let s = c in
    let a = s.args in
    let G = ground_of a.s.now in
    let ok = sound a.s.now in
    let b = c.begin in
    searching_begin G ok a.k a.allowance a.answers.now a.work.now b.new.work b.result s.requires.documents_in_bounds.1
    b.ensures

pub advance-p-requires : goal.advance-p-requires
advance-p-requires c =
    let s = c in
    let a = s.args in
    let G = ground_of a.s.now in
    let ok = sound a.s.now in
    let l = c.loop-answers in
    let w₀ = c.begin.new.work in
    let on : goes_on l.p a.k ≡ true = sym c.goes_on.ensures ∙ c.loop-answers-test.true in record {
      waiting_nonzero = (some_wait G ok a.k a.allowance a.answers.now w₀ l.answers l.work l.p l.invariant on s.requires.documents_in_bounds.0, l.invariant.kept, l.invariant.course.covered);
      room_for = searching_room G ok a.k a.allowance a.answers.now w₀ l.answers l.work l.p l.invariant on s.requires.documents_in_bounds.0;
    }

pub loop-answers-smaller : goal.loop-answers-smaller
loop-answers-smaller c =
    let s = c in
    let a = s.args in
    let G = ground_of a.s.now in
    let ok = sound a.s.now in
    let l = c.loop-answers in
    let on : goes_on l.p a.k ≡ true = sym c.goes_on.ensures ∙ c.loop-answers-test.true in
    let r = c.advance-p in
    searching_less G ok a.k a.allowance a.answers.now c.begin.new.work l.answers l.work l.p l.invariant on s.requires.documents_in_bounds.0
    r.new.answers r.new.work r.result r.ensures

pub loop-answers-preserved : goal.loop-answers-preserved
loop-answers-preserved c =
    let s = c in
    let a = s.args in
    let G = ground_of a.s.now in
    let ok = sound a.s.now in
    let l = c.loop-answers in
    let on : goes_on l.p a.k ≡ true = sym c.goes_on.ensures ∙ c.loop-answers-test.true in
    let r = c.advance-p in
    searching_step G ok a.k a.allowance a.answers.now c.begin.new.work l.answers l.work l.p l.invariant on s.requires.documents_in_bounds.0
    r.new.answers r.new.work r.result r.ensures

pub finish-requires : goal.finish-requires
finish-requires c = c.loop-answers.invariant.kept.room

pub ending-requires : goal.ending-requires
ending-requires c =
    let s = c in
    let a = s.args in
    let G = ground_of a.s.now in
    let ok = sound a.s.now in
    let l = c.loop-answers in
    let k = s.ranges.k in
    omega (arith, listed_le G ok a.k a.allowance a.answers.now c.begin.new.work l.answers l.work l.p l.invariant)

pub shape_of-answers : goal.shape_of-answers
shape_of-answers c = c.loop-answers.invariant.course.size

pub shape_of-work : goal.shape_of-work
shape_of-work c = c.finish.auto.work ∙ c.loop-answers.invariant.size ∙ c.begin.auto.work

pub returns : goal.returns
returns c =
    let s = c in
    let a = s.args in
    let G = ground_of a.s.now in
    let ok = sound a.s.now in
    let l = c.loop-answers in
    let b = c.begin in
    let off : goes_on l.p a.k ≡ false = sym c.goes_on.ensures ∙ c.loop-answers-test.false in
    searching_end G ok a.k a.allowance a.answers.now b.new.work l.answers l.work l.p l.invariant off a.work.now c.finish.new.work c.ending.result
    (begun_rest G ok a.work.now b.new.work b.result b.ensures) c.ending.ensures c.finish.ensures
    ∙ ap (λ (f : Found Ended). found_into a.answers.now a.work.now (answered f)) (found_is a.s.now a.k a.allowance)
