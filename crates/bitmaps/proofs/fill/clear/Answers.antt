use native.Mathlib.Omega.{arith}
use Rattle.bitmaps.proofs.Zeros.{zeros_put}
use Rattle.bitmaps.proofs.fill.clear.Goals as goal

pub returns : goal.returns
returns c = zeros_put c.args.masks.now c.fill.new.self c.args.place c.args.blocks _ c.requires (omega arith) (c.fill.ensures.after (λ y h. h))
