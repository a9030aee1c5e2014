use native.Mathlib.Omega.{arith}
use native.Mathlib.Nat.{mod-lt, div-le_self}
use Rattle.model.proofs.Rate.{stay_rounded, next_rounded}
use Rattle.queries.proofs.numbers.round_half_even.Goals as goal

pub overflow_mul-a : goal.overflow_mul-a
overflow_mul-a c = record { fits = omega (arith, c.requires, mod-lt c.args.a c.requires.0) }

pub overflow_add-a : goal.overflow_add-a
overflow_add-a c = record { fits = omega (arith, c.requires, mod-lt c.args.a c.requires.0) }

pub overflow_add-result : goal.overflow_add-result
overflow_add-result c = let g = c.args in record { fits = omega (arith, c.requires, div-le_self g.a g.b) }

pub returns-then-b-a : goal.returns-then-b-a
returns-then-b-a c = let g = c.args in next_rounded g.a g.b c.requires.0 (omega (arith, c.if-b-a.true))

pub returns : goal.returns
returns c = let g = c.args in stay_rounded g.a g.b c.requires.0 (omega (arith, c.if-b-a.false))
