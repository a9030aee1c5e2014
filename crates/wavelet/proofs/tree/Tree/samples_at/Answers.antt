use mathlib.Core.Path.{ap}
use Prim.Native.Nat.{ℕ, ◌+◌, ◌*◌}
use native.Mathlib.Nat.{add-sub_cancel_left}
use native.Mathlib.Omega.{arith}
use lib.ListN.{take, drop}
use Rattle.bits.specs.Bits.{sample_count}
use Rattle.wavelet.proofs.Stored.{samples_before}
use Rattle.wavelet.proofs.tree.Tree.samples_at.Goals as goal

pub overflow_mul-a : goal.overflow_mul-a
overflow_mul-a c =
    omega (arith, samples_before c.args.self.now.bytes.now c.args.self.now.levels c.args.self.now.stored c.args.j c.requires.j_lt_height)

pub overflow_add-a : goal.overflow_add-a
overflow_add-a c =
    omega (arith, samples_before c.args.self.now.bytes.now c.args.self.now.levels c.args.self.now.stored c.args.j c.requires.j_lt_height)

pub overflow_add-result : goal.overflow_add-result
overflow_add-result c =
    omega (arith, samples_before c.args.self.now.bytes.now c.args.self.now.levels c.args.self.now.stored c.args.j c.requires.j_lt_height)

pub returns : goal.returns
returns c =
    let w = 4 * sample_count c.args.self.now.levels.entries in
    let a = c.args.self.now.levels.samples + c.args.j * w in
    ap (λ (n : ℕ). take n (drop a c.args.self.now.bytes.now)) (add-sub_cancel_left a w)
