use Prim.Native.Nat.{◌/◌, ◌%◌}
use native.Mathlib.Omega.{arith}
use lib.ListN.{get_or}
use Rattle.bits.proofs.Bits.{shl_bit}
use Rattle.bits.proofs.Stores.{stored_fits}
use Rattle.bit_rows.proofs.write.put_bit.Goals as goal

pub overflow_add-row : goal.overflow_add-row
overflow_add-row c =
    let s = c in
    let i = s.args.i in
    let k = i / 8 in
    let b = s.args.b in
    rw (shl_bit b (i % 8) s.requires.2 (omega arith))
    (record { fits = stored_fits (get_or s.args.row.now k 0) (i % 8) b s.requires.1 s.requires.2 (c.items_fit k).fits (omega arith) })

pub returns : goal.returns
returns c = rw (shl_bit c.args.b (c.args.i % 8) c.requires.2 (omega arith))
