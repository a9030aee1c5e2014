-- `among` meets its contract: a number of 64 digits has none from 64 on.
use Prim.Native.Nat.{ℕ, ◌*◌, ◌%◌, ◌^◌, ◌<◌}
use native.Mathlib.Nat.{mod-eq_of_lt}
use native.Mathlib.Omega.{arith}
use mathlib.Core.Path.{◌≡◌, sym, ap, ◌∙◌}
use lib.Pow.{pow_pos, shl_exact}
use Rattle.boolean.proofs.documents.among.Goals as goal

exact : (size : ℕ) → size < 64 → 1 * 2 ^ size % 18446744073709551616 ≡ 2 ^ size
exact size l = shl_exact {a = 1} 1 size 64 (omega arith) (omega arith) ∙ omega arith

pub nonzero_rem-result : goal.nonzero_rem-result
nonzero_rem-result c = rw (exact c.args.size c.if-size-lt64.true) (pow_pos c.args.size)

pub returns-then-size-lt64 : goal.returns-then-size-lt64
returns-then-size-lt64 c = ap (λ (n : ℕ). c.args.set % n) (exact c.args.size c.if-size-lt64.true)

pub returns-else-size-lt64 : goal.returns-else-size-lt64
returns-else-size-lt64 c =
    let all : c.args.size ≡ 64 = omega (arith, c.requires) in
    sym (ap (λ (n : ℕ). c.args.set % 2 ^ n) all ∙ mod-eq_of_lt (omega (arith, c.well_formed)))
