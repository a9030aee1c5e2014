-- `put_line`: its parts, one after the other.
use Rattle.report.proofs.Typing.{types_append}
use Rattle.report.proofs.text.put_line.Goals as goal

pub returns : goal.returns
returns c =
    let pair = types_append c.put_decimal-first.ensures c.put_field-second.ensures in
    types_append (types_append pair c.put_field-third.ensures) c.put_byte.ensures
