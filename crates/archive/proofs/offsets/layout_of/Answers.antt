use native.Mathlib.Omega.{arith}
use Rattle.archive.proofs.Bounds.{samples_bound}
use Rattle.archive.proofs.offsets.layout_of.Goals as goal

pub overflow_mul-rows-2 : goal.overflow_mul-rows-2
overflow_mul-rows-2 c = record { fits = omega (arith, samples_bound c.height_of-h.result c.args.n c.height_of-h.ensures.1 c.requires.0) }

pub overflow_add-rows-2 : goal.overflow_add-rows-2
overflow_add-rows-2 c = record { fits = omega (arith, samples_bound c.height_of-h.result c.args.n c.height_of-h.ensures.1 c.requires.0) }

pub returns : goal.returns
returns c = rw c.height_of-h.ensures.0
