-- `pair_holds`: by the limits, the order, then the table.
use native.Mathlib.Omega.{arith}
use mathlib.Core.Path.{sym, ◌∙◌}
use Rattle.model.specs.Dated.{begins, ends}
use Rattle.calendar.proofs.Table.{first_early, last_late, wrong-order, both_within}
use Rattle.calendar.proofs.pair_holds.Goals as goal

pub returns-then-first-lt20000101 : goal.returns-then-first-lt20000101
returns-then-first-lt20000101 c =
    let s = c.args in
    let a = begins s.days.now s.d in
    let b = ends s.days.now s.d in
    first_early a b (omega arith)

pub returns-then-last-gt21991231 : goal.returns-then-last-gt21991231
returns-then-last-gt21991231 c =
    let s = c.args in
    let a = begins s.days.now s.d in
    let b = ends s.days.now s.d in
    last_late a b (omega arith)

pub returns-then-last-first : goal.returns-then-last-first
returns-then-last-first c =
    let s = c.args in
    let a = begins s.days.now s.d in
    let b = ends s.days.now s.d in
    wrong-order a b (omega arith)

pub returns-then-in_year : goal.returns-then-in_year
returns-then-in_year c =
    let s = c.args in
    let a = begins s.days.now s.d in
    let b = ends s.days.now s.d in
    let e = sym c.in_year.ensures ∙ c.if-in_year.true in
    c.in_year-then-in_year.ensures ∙ sym (both_within a b (omega arith) (omega arith) (omega arith) ∙ rw e)

pub returns : goal.returns
returns c =
    let s = c.args in
    let a = begins s.days.now s.d in
    let b = ends s.days.now s.d in
    let e = sym c.in_year.ensures ∙ c.if-in_year.false in
    sym (both_within a b (omega arith) (omega arith) (omega arith) ∙ rw e)
