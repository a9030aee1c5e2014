-- `days_hold`: document after document.
use native.Mathlib.Omega.{arith}
use mathlib.Core.Path.{refl, sym, ◌∙◌}
use Rattle.model.specs.Calendar.{days_in}
use Rattle.calendar.specs.Kinds.{kind_of, kinds}
use Rattle.calendar.proofs.Checks.{wrong-length, wrong_day, checked_first, checked_next, wrong-pair, checked_all}
use Rattle.calendar.proofs.days_hold.Goals as goal

pub returns-then-days-documents : goal.returns-then-days-documents
returns-then-days-documents c = let a = c.args in wrong-length a.documents a.days.now a.day (omega arith)

pub returns-then-not-is_day : goal.returns-then-not-is_day
returns-then-not-is_day c =
    let a = c.args in
    let p = c.is_day in
    wrong_day a.documents a.days.now a.day (omega arith) (sym p.ensures ∙ c.if-not-is_day.true)

pub loop-d-init : goal.loop-d-init
loop-d-init c =
    let p = c.is_day in
    checked_first (omega arith) (sym p.ensures ∙ c.if-not-is_day.false)

pub pair_holds-requires : goal.pair_holds-requires
unfolding kinds kind_of days_in
pair_holds-requires c = record {
  d_in_bounds = omega arith;
  table_value = refl;
}

pub returns-then-not-pair_holds : goal.returns-then-not-pair_holds
returns-then-not-pair_holds c =
    let p = c.pair_holds in
    wrong-pair c.loop-d.invariant (omega arith) (sym p.ensures ∙ c.if-not-pair_holds.true)

pub loop-d-preserved : goal.loop-d-preserved
loop-d-preserved c =
    let p = c.pair_holds in
    checked_next c.loop-d.invariant (omega arith) (sym p.ensures ∙ c.if-not-pair_holds.false)

pub returns : goal.returns
returns c = checked_all c.loop-d.invariant (omega arith)
