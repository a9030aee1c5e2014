-- `put_text`: the front of the text is written so far.
use Rattle.std.proofs.Common.{◌≡◌, arith, add-one, length}
use lib.Seq.{take-suc, take-length}
use Rattle.report.proofs.Typing.{types_nil, types_append}
use Rattle.report.proofs.text.put_text.Goals as goal

pub loop-byte-init : goal.loop-byte-init
loop-byte-init c = types_nil c.args.at c.args.output.now c.requires

pub loop-byte-preserved : goal.loop-byte-preserved
loop-byte-preserved c =
    let l = c.loop-byte in
    rw (add-one l.byte-index, take-suc c.args.text.now l.byte-index 0 c.loop-byte-test.true) (types_append l.invariant c.put_byte-place.ensures)

pub returns : goal.returns
returns c =
    let e : c.loop-byte.byte-index ≡ length c.args.text.now = omega arith in
    rw (take-length c.args.text.now) at (rw e at c.loop-byte.invariant)
