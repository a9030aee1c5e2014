-- `advance`: what `step` answers is the move, and `tell` says what follows from it.
use Rattle.moves.proofs.Advances.{tellable, advanced}
use Rattle.greedy.specs.Grounds.{ground_of}
use Rattle.greedy.proofs.run.advance.Goals as goal

pub tell-requires : goal.tell-requires
tell-requires c =
    let s = c in
    let a = s.args in
    let st = c.step-moved in
    tellable (ground_of a.s.now) a.allowance a.p a.answers.now a.work.now st.result st.new.work st.ensures.work_after
    s.requires.room_for s.requires.waiting_nonzero.2 s.ranges.allowance.fits

pub returns : goal.returns
returns c =
    let a = c.args in
    let st = c.step-moved in
    let t = c.tell in
    advanced (ground_of a.s.now) a.allowance a.p a.answers.now a.work.now st.result st.new.work st.ensures.work_after st.ensures.moves
    t.result t.ensures.value t.new.answers t.ensures.answers_after
