-- `whole`: every report fits the output.
use Prim.Native.Nat.{◌≤◌}
use native.Mathlib.Omega.{arith}
use mathlib.Core.Path.{sym, ap, ◌∙◌}
use lib.ListN.{length}
use lib.Seq.{length-take-le}
use Rattle.report.specs.Report.{Shown}
use Rattle.report.proofs.Fits.{length-report, shown-whole}
use Rattle.report.proofs.program.whole.Goals as goal

pub returns : goal.returns
returns c =
    let start = c in
    let input = start.args.input.now in
    let put = c.shortlist in
    let n = put.result in
    let after = put.new.output in
    let room : 65536 ≤ length start.args.output.now = omega arith in
    let same = put.ensures ∙ shown-whole input start.args.output.now room in
    let inside : n ≤ length after = omega (arith, ap (λ (s : Shown). s.size) same, put.auto.output, length-report input) in record {
      output_after = same;
      prefix_len = (inside, sym (length-take-le n after inside));
    }
