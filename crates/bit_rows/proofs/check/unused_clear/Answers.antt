use mathlib.Core.Path.{sym}
use Prim.Native.Nat.{◌/◌}
use Rattle.bits.proofs.Stores.{unused_none, unused_byte}
use Rattle.bit_rows.proofs.check.unused_clear.Goals as goal

pub returns-then-used-eq0 : goal.returns-then-used-eq0
returns-then-used-eq0 c = sym (unused_none c.args.n c.args.row.now c.if-used-eq0.true)

pub returns : goal.returns
returns c =
    let s = c in
    sym (unused_byte s.args.n s.args.row.now c.if-used-eq0.false (c.type_inv.row (s.args.n / 8)).fits)
