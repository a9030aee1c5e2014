-- `probe_at`: the document of the rank with its count.
use native.Mathlib.Omega.{arith}
use Rattle.probing.proofs.Laws.Steps.{kept_refl, step_again, step_room, step_new, step_kept}
use Rattle.probing.proofs.Ranges.{length-range}
use Rattle.probing.proofs.run.probe_at.Goals as goal

pub returns-then-work-d-eq1-clause-result_after : goal.returns-then-work-d-eq1-clause-result_after
returns-then-work-d-eq1-clause-result_after c =
    let a = c.args in
    step_again c.requires.lent a.r (omega (arith, c.requires.rank, length-range a.s.now)) c.at_rank-p.ensures.document.0 a.candidates.now.held c.if-work-d-eq1.true

pub returns-then-work-d-eq1-clause-kept : goal.returns-then-work-d-eq1-clause-kept
returns-then-work-d-eq1-clause-kept c =
    let a = c.args in
    kept_refl a.s.now.documents a.candidates.now.held a.work.now a.candidates.now.answers.now

pub enter-requires : goal.enter-requires
enter-requires c =
    let a = c.args in
    step_room c.requires.lent a.r (omega (arith, c.requires.rank, length-range a.s.now)) c.at_rank-p.ensures.document.0 a.candidates.now.held c.if-work-d-eq1.false c.requires.held

pub returns-clause-result_after : goal.returns-clause-result_after
returns-clause-result_after c =
    let a = c.args in
    step_new c.requires.lent a.r (omega (arith, c.requires.rank, length-range a.s.now)) c.at_rank-p.ensures.document.0 a.candidates.now.held c.if-work-d-eq1.false c.at_rank-p.ensures.count c.enter.ensures.entered

pub returns-clause-kept : goal.returns-clause-kept
returns-clause-kept c =
    let a = c.args in
    step_kept c.requires.lent a.r (omega (arith, c.requires.rank, length-range a.s.now)) c.at_rank-p.ensures.document.0 a.candidates.now.held c.if-work-d-eq1.false c.at_rank-p.ensures.count c.enter.ensures.entered
