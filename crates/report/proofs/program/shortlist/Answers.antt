-- `shortlist`: by the tests of the length.
use lib.ListN.{length}
use borrow.Author.Tests.{lt-ltb, le-ltb}
use Rattle.report.proofs.Typing.{types_shown}
use Rattle.report.proofs.program.shortlist.Goals as goal

pub returns-then-input-gt65536 : goal.returns-then-input-gt65536
returns-then-input-gt65536 c =
    let s = c in
    rw (lt-ltb 65536 (length s.args.input.now) c.if-input-gt65536.true) (types_shown c.put_last.ensures)

pub returns-then-input-lt56 : goal.returns-then-input-lt56
returns-then-input-lt56 c =
    let s = c in
    let n = length s.args.input.now in
    rw (le-ltb 65536 n c.if-input-gt65536.false, lt-ltb n 56 c.if-input-lt56.true) (types_shown (rw c.from.ensures at c.put_last-then-input-lt56.ensures))

pub returns : goal.returns
returns c =
    let s = c in
    let n = length s.args.input.now in
    rw (le-ltb 65536 n c.if-input-gt65536.false, le-ltb n 56 c.if-input-lt56.false) (types_shown c.put_report.ensures)
