use Prim.Native.Nat.{◌-◌, ◌*◌}
use native.Mathlib.Omega.{arith}
use Rattle.bit_rank.proofs.Near.{twice_kept, kept_le}
use Rattle.bit_rank.proofs.counts.twice_behind.Goals as goal

pub overflow_mul-result-2 : goal.overflow_mul-result-2
overflow_mul-result-2 c =
    let a = c.args.a in
    omega (arith, twice_kept c.args.h a c.requires.0, kept_le (1 - c.args.h) (2 * a))

pub returns : goal.returns
returns c = twice_kept c.args.h c.args.a c.requires.0
