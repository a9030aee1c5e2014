use mathlib.Core.Path.{ap}
use native.Mathlib.Omega.{arith}
use lib.Count.{ones, ones-le}
use lib.ListN.{get_or}
use Rattle.bits.proofs.Bits.{ones_next}
use Rattle.bits.proofs.count.ones_in_bytes.Goals as goal

pub loop-k-preserved : goal.loop-k-preserved
loop-k-preserved c =
    let row = c.args.row.now in
    let k = c.loop-k.k in
    let fits = (c.type_inv.row k).fits in
    omega (arith, ones_next row k fits, ap ones c.from.ensures, ones-le 8 (get_or row k 0) fits)
