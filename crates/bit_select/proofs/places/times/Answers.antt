use native.Mathlib.Omega.{arith}
use Rattle.bit_select.proofs.Halving.{times_bool, times_le}
use Rattle.bit_select.proofs.places.times.Goals as goal

pub overflow_mul-result : goal.overflow_mul-result
overflow_mul-result c = omega (arith, times_bool c.args.test c.args.x, times_le c.args.test c.args.x)

pub returns : goal.returns
returns c =
    let e = times_bool c.args.test c.args.x in
    (e, omega (arith, e, times_le c.args.test c.args.x))
