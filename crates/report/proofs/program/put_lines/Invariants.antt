-- `put_lines`: the lines of the first documents are written so far.
use Rattle.std.proofs.Common.{◌*◌, take}
use Rattle.report.specs.Report.{lines_of}
use Rattle.report.specs.Types.{Types}
use Rattle.report.proofs.program.put_lines.Given as goal

abbrev pub invariant-loop-i : goal.invariant-loop-i
invariant-loop-i l = Types (lines_of (take (3 * l.i) l.answers)) 0 l.initial.output l.at l.output
