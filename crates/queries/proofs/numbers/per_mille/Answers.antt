use borrow.Author.Tests.{eq-eqb, ne_eqb, lt-ltb, le-ltb}
use native.Mathlib.Omega.{arith}
use lib.Dec.{ltb, eqb}
use Rattle.bits.proofs.Tests.{or_right}
use Rattle.model.proofs.Rate.{rounded_rate, rate_le}
use Rattle.queries.proofs.numbers.per_mille.Goals as goal

pub returns-then-size-eq0 : goal.returns-then-size-eq0
returns-then-size-eq0 c = rw (eq-eqb c.args.size 0 c.if-size-eq0.true)

pub returns-then-size-count : goal.returns-then-size-count
returns-then-size-count c = let g = c.args in rw (or_right (eqb g.size 0) (ltb g.size g.count) (lt-ltb g.size g.count c.if-size-count.true))

pub overflow_cast-result : goal.overflow_cast-result
overflow_cast-result c =
    let g = c.args in
    let e = rounded_rate g.count g.size (omega arith) (omega arith) c.round_half_even.result c.round_half_even.ensures in
    record { fits = omega (arith, rate_le g.count g.size (omega arith) (omega arith)) }

pub returns : goal.returns
returns c =
    let g = c.args in
    rw (
      ne_eqb g.size 0 c.if-size-eq0.false,
      le-ltb g.size g.count c.if-size-count.false,
      rounded_rate g.count g.size (omega arith) (omega arith) c.round_half_even.result c.round_half_even.ensures,
    )
