-- `put_field`: its parts, one after the other.
use Rattle.report.proofs.Typing.{types_append}
use Rattle.report.proofs.text.put_field.Goals as goal

pub returns : goal.returns
returns c = types_append c.put_byte-first.ensures c.put_decimal.ensures
