-- `record`: the numbers fit 32 bits.
use mathlib.Core.Path.{refl}
use Rattle.greedy.specs.Records.{packed}
use Rattle.greedy.proofs.node.Node.record.Goals as goal

pub returns : goal.returns
unfolding packed
returns c = refl
