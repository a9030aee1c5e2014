-- `in_year`: by the table.
use native.Mathlib.Omega.{arith}
use Prim.Native.Nat.{◌%◌}
use mathlib.Core.Path.{sym, ◌∙◌}
use Rattle.calendar.proofs.Table.{kinds-at, in_each_year, in_leap_years, in_no_year, past_months}
use Rattle.calendar.proofs.in_year.Goals as goal

pub returns-then-place-ge1300 : goal.returns-then-place-ge1300
returns-then-place-ge1300 c = past_months c.args.x (omega arith)

pub returns-then-kind-eq100 : goal.returns-then-kind-eq100
returns-then-kind-eq100 c =
    let s = c in
    let x = s.args.x in
    let k = kinds-at s.args.table.now (x % 10000) s.requires (omega arith) in
    in_each_year x (omega arith)

pub returns-then-kind-eq108 : goal.returns-then-kind-eq108
returns-then-kind-eq108 c =
    let s = c in
    let x = s.args.x in
    let k = kinds-at s.args.table.now (x % 10000) s.requires (omega arith) in
    c.is_leap.ensures ∙ sym (in_leap_years x (omega arith))

pub returns : goal.returns
returns c =
    let s = c in
    let x = s.args.x in
    let k = kinds-at s.args.table.now (x % 10000) s.requires (omega arith) in
    in_no_year x (λ e. omega arith) (λ e. omega arith)
