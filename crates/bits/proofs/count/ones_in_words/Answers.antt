use Prim.Native.Nat.{◌+◌, ◌*◌}
use mathlib.Core.Path.{◌≡◌, ap}
use native.Mathlib.Omega.{arith}
use lib.Count.{ones}
use Rattle.bits.proofs.Bits.{ones_next_word}
use Rattle.bits.proofs.count.ones_in_words.Goals as goal

pub loop-w-preserved : goal.loop-w-preserved
loop-w-preserved c =
    let k = c.args.a + 8 * c.loop-w.w in
    let p : k + 8 ≡ c.args.a + 8 * (c.loop-w.w + 1) = omega arith in
    omega (arith, rw p at (ones_next_word c.args.row.now (λ i. (c.type_inv.row i).fits) k), ap ones c.word.ensures)
