use Prim.Native.Nat.{ℕ, ◌+◌}
use native.Mathlib.Omega.{arith}
use mathlib.Core.Path.{ap}
use lib.ListN.{set}
use Rattle.listing.proofs.Numbers.{level-first}
use Rattle.listing.proofs.pass.note_end.Goals as goal

pub returns : goal.returns
returns c = let g = c.args in ap (λ (n : ℕ). set g.cursors.now (n + g.q) g.hi) (level-first g.j (omega arith))
