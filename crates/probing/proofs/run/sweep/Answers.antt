-- `sweep`: one probe a turn.
use Prim.Native.Nat.{ℕ, ◌+◌, ◌*◌}
use native.Mathlib.Omega.{arith}
use mathlib.Core.Path.{refl, ap, ◌∙◌}
use Rattle.model.specs.Probing.{probe}
use Rattle.model.proofs.Probing.Rounds.{sweeping_start, sweeping_end}
use Rattle.search.specs.Sought.{range_of}
use Rattle.probing.specs.Slices.{state_in}
use Rattle.probing.proofs.Laws.Steps.{lent_same, kept_refl, kept_trans, swept_on}
use Rattle.probing.proofs.Ranges.{length-range}
use Rattle.probing.proofs.run.sweep.Goals as goal

pub loop-r-init : goal.loop-r-init
loop-r-init c =
    let a = c.args in (
      sweeping_start c.requires.step.0 c.requires.swept,
      kept_refl a.s.now.documents a.candidates.now.held a.work.now a.candidates.now.answers.now,
      (refl, refl, refl),
    )

pub probe_at-requires-clause-lent : goal.probe_at-requires-clause-lent
probe_at-requires-clause-lent c = rw c.loop-r.invariant.2.0 (lent_same c.requires.lent (omega arith) c.loop-r.invariant.2.1)

pub probe_at-requires-clause-held : goal.probe_at-requires-clause-held
probe_at-requires-clause-held c = rw c.loop-r.invariant.2.0 c.loop-r.invariant.0.before.held

pub loop-r-preserved : goal.loop-r-preserved
loop-r-preserved c =
    let a = c.args in
    let l = c.loop-r in
    let p = c.probe_at in
    let same = l.invariant.2 in
    let probed = p.ensures.result_after ∙ ap (λ (k : ℕ). probe k (range_of a.s.now) l.r (state_in a.s.now.documents l.work l.candidates.answers.now l.candidates.held)) same.0 in (
      swept_on c.requires.step.0 c.requires.lent.within l.r (omega (arith, length-range a.s.now)) l.work l.candidates.answers.now l.candidates.held l.invariant.0
          p.new.work p.new.candidates.answers.now p.new.candidates.held probed,
      kept_trans l.invariant.1 p.ensures.kept,
      (p.ensures.same.0 ∙ same.0, p.ensures.same.1 ∙ same.1, p.ensures.same.2 ∙ same.2),
    )

pub returns : goal.returns
returns c =
    let l = c.loop-r in record {
      swept_2 = sweeping_end c.requires.step.0 l.r (omega (arith, length-range c.args.s.now)) l.invariant.0;
      kept = l.invariant.1;
      same = l.invariant.2;
    }

-- the same at the last rank of the range
pub returns-2 : goal.returns-2
returns-2 c =
    let a = c.args in
    let l = c.loop-r in
    let p = c.probe_at in
    let same = l.invariant.2 in
    let probed = p.ensures.result_after ∙ ap (λ (k : ℕ). probe k (range_of a.s.now) l.r (state_in a.s.now.documents l.work l.candidates.answers.now l.candidates.held)) same.0 in record {
      swept_2 = sweeping_end c.requires.step.0 (l.r + 2 * a.g) (omega (arith, length-range a.s.now))
          (swept_on c.requires.step.0 c.requires.lent.within l.r (omega (arith, length-range a.s.now)) l.work l.candidates.answers.now l.candidates.held l.invariant.0
          p.new.work p.new.candidates.answers.now p.new.candidates.held probed);
      kept = kept_trans l.invariant.1 p.ensures.kept;
      same = (p.ensures.same.0 ∙ same.0, p.ensures.same.1 ∙ same.1, p.ensures.same.2 ∙ same.2);
    }
