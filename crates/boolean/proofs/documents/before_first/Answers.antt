-- `before_first` meets its contract.
use native.Mathlib.Omega.{arith}
use lib.Count.{trailing_le}
use Rattle.boolean.proofs.Members.{first_by_zeros}
use Rattle.boolean.proofs.documents.before_first.Goals as goal

pub overflow_cast-result : goal.overflow_cast-result
overflow_cast-result c = record { fits = omega (arith, trailing_le 64 c.args.set) }

pub returns : goal.returns
returns c = first_by_zeros c.args.set c.requires (omega (arith, c.well_formed))
