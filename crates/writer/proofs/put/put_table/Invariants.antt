use Rattle.std.proofs.Common.{◌≡◌, map, take}
use Rattle.bits.specs.Bits.{concat, sum, little_endian}
use Rattle.model.specs.Format.{table_from}
use Rattle.writer.specs.Writing.{overwrite_at}
use Rattle.writer.proofs.put.put_table.Given as goal

abbrev pub invariant-loop-t : goal.invariant-loop-t
invariant-loop-t l =
    (l.target ≡ overwrite_at 40 (concat (map little_endian (table_from 0 (take l.t l.lengths)))) l.initial.target)
    × (l.start ≡ sum (take l.t l.lengths))
