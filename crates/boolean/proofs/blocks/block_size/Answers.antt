use Rattle.std.proofs.Common.{ℕ, ap, ◌∙◌, arith, ◌^◌}
use native.Mathlib.Nat.{one-mul}
use lib.Pow.{shl_exact}
use Rattle.boolean.proofs.blocks.block_size.Goals as goal

pub returns : goal.returns
returns c =
    let k = c.min.result in
    shl_exact {a = 1} 1 k 64 (omega arith) (omega (arith, c.min.ensures)) ∙ one-mul (2 ^ k) ∙ ap (λ (n : ℕ). 2 ^ n) (omega (arith, c.min.ensures))
