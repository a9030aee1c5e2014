use mathlib.Core.Path.{◌≡◌, ap, ◌∙◌}
use Prim.Native.Nat.{ℕ, ◌%◌, ◌^◌}
use native.Mathlib.Nat.{mod-lt}
use native.Mathlib.Omega.{arith}
use lib.Count.{ones, ones-le}
use lib.Pow.{pow_pos}
use Rattle.bits.proofs.Bits.{shl_one}
use Rattle.bits.proofs.count.low_ones.Goals as goal

pub nonzero_rem-x : goal.nonzero_rem-x
nonzero_rem-x c = rw (shl_one c.args.r c.requires) (pow_pos c.args.r)

pub returns : goal.returns
returns c =
    let x = c.args.x in
    let r = c.args.r in
    let e : c.word_ones.result ≡ ones (x % 2 ^ r)
    = c.word_ones.ensures.0 ∙ ap ones c.from.ensures ∙ ap (λ (m : ℕ). ones (x % m)) (shl_one r c.requires) in
    (e, omega (arith, ones-le r (x % 2 ^ r) (mod-lt x (pow_pos r))))
