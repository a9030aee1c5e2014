use Prim.Native.Nat.{suc, ◌+◌, ◌*◌}
use native.Mathlib.Numerals.{add-one}
use native.Mathlib.Omega.{arith}
use mathlib.Core.Path.{◌≡◌}
use lib.ListN.{length-set}
use Rattle.answers.proofs.places.put_placed.Goals as goal

pub bounds-answers-first-2 : goal.bounds-answers-first-2
bounds-answers-first-2 c = simp length-set (omega arith)

pub bounds-answers-first-3 : goal.bounds-answers-first-3
bounds-answers-first-3 c = simp length-set (omega arith)

pub returns : goal.returns
returns c =
    let two : 3 * c.args.at + 2 ≡ suc (suc (3 * c.args.at)) = omega arith in
    rw (add-one (3 * c.args.at), two)
