-- `put_last`: its parts, one after the other.
use Rattle.report.proofs.Typing.{types_append}
use Rattle.report.proofs.text.put_last.Goals as goal

pub returns : goal.returns
returns c =
    types_append (types_append c.put_text-first.ensures c.put_decimal-second.ensures) c.put_byte.ensures
