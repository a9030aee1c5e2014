-- `put_byte`: with room, and without.
use Rattle.report.proofs.Typing.{types_byte, types_full}
use Rattle.report.proofs.text.put_byte.Goals as goal

pub returns-then-at-output : goal.returns-then-at-output
returns-then-at-output c = let s = c.args in types_byte s.byte s.at s.output.now c.if-at-output.true

pub returns : goal.returns
returns c = let s = c in types_full s.args.byte s.args.at s.args.output.now c.if-at-output.false s.requires
