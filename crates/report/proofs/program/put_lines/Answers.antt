-- `put_lines`: the lines of the first documents are written so far.
use Prim.Native.Nat.{ℕ, ◌*◌}
use native.Mathlib.Omega.{arith}
use native.Mathlib.Numerals.{add-one}
use mathlib.Core.Path.{◌≡◌, sym, ap, ◌∙◌, subst}
use mathlib.Core.List.{List}
use lib.ListN.{take}
use Rattle.report.specs.Report.{lines_of}
use Rattle.report.specs.Types.{Types}
use Rattle.report.proofs.Typing.{types_nil, types_append, lines_suc}
use Rattle.report.proofs.program.put_lines.Goals as goal

pub loop-i-init : goal.loop-i-init
loop-i-init c = types_nil 0 c.args.output.now (omega arith)

pub loop-i-preserved : goal.loop-i-preserved
loop-i-preserved c =
    let l = c.loop-i in
    let s = c.args in
    let put = c.put_line-at in
    let numbers = s.answers.now in
    let e = ap (λ (n : ℕ). lines_of (take (3 * n) numbers)) (add-one l.i) ∙ lines_suc l.i numbers (omega arith) in
    subst (λ (text : List ℕ). Types text 0 s.output.now put.result put.new.output) (sym e) (types_append l.invariant put.ensures)

pub returns : goal.returns
returns c =
    let l = c.loop-i in
    let s = c.args in
    let e : l.i ≡ s.n = omega arith in
    subst (λ (k : ℕ). Types (lines_of (take (3 * k) s.answers.now)) 0 s.output.now l.at l.output) e l.invariant
