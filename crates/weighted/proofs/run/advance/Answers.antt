-- `advance`: what `step` answers is the move, and `tell` says what follows from it.
use native.Mathlib.Omega.{arith}
use Rattle.moves.proofs.Advances.{tellable, advanced}
use Rattle.weighted.specs.Grounds.{ground_of}
use Rattle.weighted.proofs.run.advance.Goals as goal

pub tell-progress-requires : goal.tell-progress-requires
tell-progress-requires c =
    let a = c.args in
    let st = c.step-stepped in
    tellable (ground_of a.asking.now.query) a.allowance a.p a.answers.now a.work.now st.result.moved st.new.work st.ensures.work_after
    c.requires.room_for c.requires.waiting_nonzero.2 (omega (arith, c.ranges.allowance))

pub returns : goal.returns
returns c =
    let a = c.args in
    let st = c.step-stepped in
    let t = c.tell-progress in record {
      advanced = advanced (ground_of a.asking.now.query) a.allowance a.p a.answers.now a.work.now st.result.moved st.new.work st.ensures.work_after
          st.ensures.moves t.result t.ensures.value t.new.answers t.ensures.answers_after;
      leads_2 = st.ensures.leads_2;
    }
