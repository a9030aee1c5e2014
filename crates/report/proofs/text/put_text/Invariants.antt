-- `put_text`: the front of the text is written so far.
use Rattle.std.proofs.Common.{take}
use Rattle.report.specs.Types.{Types}
use Rattle.report.proofs.text.put_text.Given as goal

abbrev pub invariant-loop-byte : goal.invariant-loop-byte
invariant-loop-byte l = Types (take l.byte-index l.text) l.at l.initial.output l.place l.output
