use Prim.Native.Nat.{◌/◌, ◌%◌}
use native.Mathlib.Omega.{arith}
use Rattle.bit_rank.proofs.Near.{mask_kept}
use Rattle.bit_rank.proofs.counts.mask.Goals as goal

pub returns : goal.returns
returns c = mask_kept (c.args.u / 4 % 2) (omega arith)
