use Prim.Native.Nat.{◌*◌}
use native.Mathlib.Numerals.{add-one}
use native.Mathlib.Omega.{arith}
use lib.ListN.{length-set}
use Rattle.answers.proofs.pairs.put_pair.Goals as goal

pub bounds-answers-place-2 : goal.bounds-answers-place-2
bounds-answers-place-2 c = simp length-set (omega arith)

pub returns : goal.returns
returns c = rw (add-one (2 * c.args.at))
