use Prim.Native.Nat.{◌+◌, ◌*◌}
use native.Mathlib.Omega.{arith}
use mathlib.Core.Path.{refl}
use Rattle.weighted.proofs.score.count_at.Goals as goal

pub overflow_cast-lo : goal.overflow_cast-lo
overflow_cast-lo c = let g = c.args in omega (arith, c.type_inv.path (2 * (g.frame + 1 + g.k)))

pub overflow_cast-hi : goal.overflow_cast-hi
overflow_cast-hi c = let g = c.args in omega (arith, c.type_inv.path (2 * (g.frame + 1 + g.k) + 1))

pub returns : goal.returns
returns c =
    let g = c.args in
    (refl, omega (arith, c.type_inv.path (2 * (g.frame + 1 + g.k) + 1)))
