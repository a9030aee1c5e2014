-- `weighted_in`: the loop follows the course of the moves; at its end the answer is read off them.
use native.Mathlib.Omega.{arith}
use mathlib.Core.Path.{◌≡◌, sym, ap, ◌∙◌}
use mathlib.Core.Bool.{true, false}
use Rattle.model.specs.Outcome.{answered}
use Rattle.model.specs.TopK.{Ended, Found, found_into}
use Rattle.archive.proofs.Opened.{fitting}
use Rattle.moves.specs.Results.{goes_on}
use Rattle.moves.proofs.Searching.{searching_begin, begun_rest, some_wait, searching_room, searching_less, searching_step, listed_le, searching_end}
use Rattle.weighted.specs.Grounds.{ground_of}
use Rattle.weighted.proofs.Nodes.{sound}
use Rattle.weighted.proofs.Answers.{found_moves}
use Rattle.weighted.proofs.run.weighted_in.Goals as goal

pub begin-requires : goal.begin-requires
begin-requires c =
    let ok = sound c.args.query.now in
    let p = c.put_root in record {
      leads = (
        record { room = p.auto.path; inside = record { low = omega arith; few = omega arith }; held = p.ensures },
        omega (arith, c.requires.1, ok.some),
      );
    }

pub loop-asking-init : goal.loop-asking-init
loop-asking-init c =
    let a = c.args in
    let G = ground_of a.query.now in
    let ok = sound a.query.now in
    let p = c.put_root in
    let b = c.begin in (
      searching_begin G ok a.k a.allowance a.answers.now a.work.now b.new.work b.result c.requires.1 b.ensures,
      record { room = p.auto.path; inside = record { low = omega arith; few = omega arith }; held = p.ensures },
    )

pub slice_bounds-advance-end : goal.slice_bounds-advance-end
slice_bounds-advance-end c = sym c.loop-asking.invariant.1.room

pub advance-next-requires : goal.advance-next-requires
advance-next-requires c =
    let a = c.args in
    let G = ground_of a.query.now in
    let ok = sound a.query.now in
    let l = c.loop-asking in
    let w₀ = c.begin.new.work in
    let on : goes_on l.p a.k ≡ true = sym c.goes_on.ensures ∙ c.loop-asking-test.true in record {
      leads = l.invariant.1;
      waiting_nonzero = (some_wait G ok a.k a.allowance a.answers.now w₀ l.answers l.work l.p l.invariant.0 on c.requires.0, l.invariant.0.kept, l.invariant.0.course.covered);
      room_for = searching_room G ok a.k a.allowance a.answers.now w₀ l.answers l.work l.p l.invariant.0 on c.requires.0;
    }

pub loop-asking-smaller : goal.loop-asking-smaller
loop-asking-smaller c =
    let a = c.args in
    let G = ground_of a.query.now in
    let ok = sound a.query.now in
    let l = c.loop-asking in
    let w₀ = c.begin.new.work in
    let on : goes_on l.p a.k ≡ true = sym c.goes_on.ensures ∙ c.loop-asking-test.true in
    let r = c.advance-next in
    searching_less G ok a.k a.allowance a.answers.now w₀ l.answers l.work l.p l.invariant.0 on c.requires.0 r.new.answers r.new.work r.result.progress r.ensures.advanced

pub loop-asking-preserved : goal.loop-asking-preserved
loop-asking-preserved c =
    let a = c.args in
    let G = ground_of a.query.now in
    let ok = sound a.query.now in
    let l = c.loop-asking in
    let w₀ = c.begin.new.work in
    let on : goes_on l.p a.k ≡ true = sym c.goes_on.ensures ∙ c.loop-asking-test.true in
    let r = c.advance-next in
    (searching_step G ok a.k a.allowance a.answers.now w₀ l.answers l.work l.p l.invariant.0 on c.requires.0 r.new.answers r.new.work r.result.progress r.ensures.advanced, r.ensures.leads_2)

pub overflow_mul-query : goal.overflow_mul-query
overflow_mul-query c =
    record { fits = omega (arith, (fitting c.args.query.now.archive.bytes.now c.args.query.now.archive.layout c.args.query.now.archive.opened).documents) }

pub clear-requires : goal.clear-requires
clear-requires c = c.loop-asking.invariant.0.kept.room

pub ending-requires : goal.ending-requires
ending-requires c =
    let a = c.args in
    let G = ground_of a.query.now in
    let ok = sound a.query.now in
    let l = c.loop-asking in
    let w₀ = c.begin.new.work in
    omega (arith, listed_le G ok a.k a.allowance a.answers.now w₀ l.answers l.work l.p l.invariant.0, c.ranges.k)

pub shape_of-answers : goal.shape_of-answers
shape_of-answers c = c.loop-asking.invariant.0.course.size

pub shape_of-work : goal.shape_of-work
shape_of-work c = c.clear.auto.work ∙ c.loop-asking.invariant.0.size ∙ c.begin.auto.work

pub returns : goal.returns
returns c =
    let a = c.args in
    let G = ground_of a.query.now in
    let ok = sound a.query.now in
    let l = c.loop-asking in
    let w₀ = c.begin.new.work in
    let on : goes_on l.p a.k ≡ false = sym c.goes_on.ensures ∙ c.loop-asking-test.false in
    let b = c.begin in
    let t = c.clear in
    searching_end G ok a.k a.allowance a.answers.now w₀ l.answers l.work l.p l.invariant.0 on a.work.now t.new.work c.ending.result
    (begun_rest G ok a.work.now w₀ b.result b.ensures) c.ending.ensures t.ensures
    ∙ ap (λ (f : Found Ended). found_into a.answers.now a.work.now (answered f))
    (found_moves a.query.now a.k a.allowance)
