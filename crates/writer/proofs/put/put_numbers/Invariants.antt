use Rattle.std.proofs.Common.{◌≡◌, map, take}
use Rattle.bits.specs.Bits.{concat, little_endian}
use Rattle.writer.specs.Writing.{overwrite_at}
use Rattle.writer.proofs.put.put_numbers.Given as goal

abbrev pub invariant-loop-i : goal.invariant-loop-i
invariant-loop-i l = l.target ≡ overwrite_at 0 (concat (map little_endian (take l.i l.numbers))) l.initial.target
