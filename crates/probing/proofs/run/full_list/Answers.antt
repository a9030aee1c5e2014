-- `full_list`: one round a turn; where no other is to come, the candidates are the full list.
use Prim.Native.Nat.{◌<◌}
use native.Mathlib.Omega.{arith}
use mathlib.Core.Path.{◌≡◌, refl, sym, ◌∙◌}
use mathlib.Core.Bool.{true, false}
use Rattle.std.proofs.Common.{rules}
use Rattle.model.specs.Probing.{goes_on}
use Rattle.model.specs.Queries.{pairs_in}
use Rattle.model.proofs.Probing.Rounds.{swept_start}
use Rattle.probing.specs.Slices.{marked}
use Rattle.probing.proofs.Laws.Steps.{lent_same, kept_refl, kept_trans, held_room, swept_written, goes_on_more, power_half}
use Rattle.probing.proofs.Ranges.{length-range, range_few, lent-range}
use Rattle.probing.proofs.run.full_list.Goals as goal

pub returns-then-k-eq0 : goal.returns-then-k-eq0
returns-then-k-eq0 c = record {
  value = rw c.if-k-eq0.true;
  answers_after = rw c.if-k-eq0.true;
  work_unchanged = refl;
}

pub first_step-g-requires : goal.first_step-g-requires
first_step-g-requires c = range_few c.args.s.now

pub sweep-requires-clause-lent : goal.sweep-requires-clause-lent
sweep-requires-clause-lent c = lent-range c.args.s.now (omega (arith, c.if-k-eq0.false)) c.requires.documents_in_bounds.0 c.requires.documents_in_bounds.1

pub sweep-requires-clause-swept : goal.sweep-requires-clause-swept
sweep-requires-clause-swept c = rw c.requires.work_value (swept_start (omega (arith, c.first_step-g.ensures.result_nonzero.2, length-range c.args.s.now)))

pub loop-g-init : goal.loop-g-init
loop-g-init c =
    let s = c in
    let w = c.sweep in (
      w.ensures.swept_2,
      c.first_step-g.ensures.power,
      (c.first_step-g.ensures.result_nonzero.0, c.first_step-g.ensures.result_nonzero.1),
      kept_refl s.args.s.now.documents w.new.candidates.held w.new.work w.new.candidates.answers.now,
      lent-range s.args.s.now (omega (arith, c.if-k-eq0.false)) (omega (arith, s.requires.documents_in_bounds)) (omega (arith, s.requires.documents_in_bounds, w.ensures.same.1)),
      w.ensures.same.0,
      (refl, refl, refl),
    )

pub goes_on-requires : goal.goes_on-requires
goes_on-requires c =
    let s = c in
    let l = c.loop-g in
    let i = l.invariant in
    let t = held_room i.4 l.candidates.held (marked s.args.s.now.documents l.work) i.0.held in
    (i.2.0, rw i.5 i.4.some, t.1, t.2)

pub sweep-requires-in-loop-g : goal.sweep-requires-in-loop-g
sweep-requires-in-loop-g c =
    let s = c in
    let l = c.loop-g in
    let i = l.invariant in
    let on : goes_on l.candidates.k l.g (pairs_in l.candidates.answers.now l.candidates.held) ≡ true = sym c.goes_on.ensures ∙ c.loop-g-test.true in
    let big : 1 < l.g = goes_on_more l.candidates.k l.g (pairs_in l.candidates.answers.now l.candidates.held) on in record {
      step = (omega arith, omega arith);
      lent = rw i.5 i.4;
      swept = rw i.5 (rw (power_half l.g big i.1).0 at i.0);
    }

pub loop-g-preserved : goal.loop-g-preserved
loop-g-preserved c =
    let l = c.loop-g in
    let i = l.invariant in
    let on : goes_on l.candidates.k l.g (pairs_in l.candidates.answers.now l.candidates.held) ≡ true = sym c.goes_on.ensures ∙ c.loop-g-test.true in
    let big : 1 < l.g = goes_on_more l.candidates.k l.g (pairs_in l.candidates.answers.now l.candidates.held) on in
    let w = c.sweep-in-loop-g in
    let same = w.ensures.same in (
      rw i.5 at w.ensures.swept_2,
      (power_half l.g big i.1).1,
      (omega arith, omega arith),
      kept_trans i.3 w.ensures.kept,
      lent_same i.4 (omega arith) same.1,
      same.0 ∙ i.5,
      (same.0 ∙ i.6.0, same.1 ∙ i.6.1, same.2 ∙ i.6.2),
    )

pub returns-clause-value : goal.returns-clause-value
returns-clause-value c =
    let l = c.loop-g in
    let i = l.invariant in
    let off : goes_on c.args.k l.g (pairs_in l.candidates.answers.now l.candidates.held) ≡ false = rw i.5 at (sym c.goes_on.ensures ∙ c.loop-g-test.false) in
    (swept_written i.4 i.2.0 l.candidates.held i.0 off c.args.answers.now (kept_trans c.sweep.ensures.kept i.3).rest).0

pub returns-clause-answers_after : goal.returns-clause-answers_after
returns-clause-answers_after c =
    let l = c.loop-g in
    let i = l.invariant in
    let off : goes_on c.args.k l.g (pairs_in l.candidates.answers.now l.candidates.held) ≡ false = rw i.5 at (sym c.goes_on.ensures ∙ c.loop-g-test.false) in
    let written = (swept_written i.4 i.2.0 l.candidates.held i.0 off c.args.answers.now (kept_trans c.sweep.ensures.kept i.3).rest).1 in
    let lent = i.6.2 ∙ c.sweep.ensures.same.2 in
    search rules

pub returns-clause-work_unchanged : goal.returns-clause-work_unchanged
returns-clause-work_unchanged c = (kept_trans c.sweep.ensures.kept c.loop-g.invariant.3).marks
