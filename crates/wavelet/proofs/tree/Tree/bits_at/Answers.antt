use mathlib.Core.Path.{ap}
use Prim.Native.Nat.{ℕ, ◌+◌, ◌*◌}
use native.Mathlib.Nat.{add-sub_cancel_left}
use native.Mathlib.Omega.{arith}
use lib.ListN.{take, drop}
use Rattle.bits.specs.Bits.{row_bytes}
use Rattle.wavelet.proofs.Stored.{rows_before}
use Rattle.wavelet.proofs.tree.Tree.bits_at.Goals as goal

pub overflow_mul-a : goal.overflow_mul-a
overflow_mul-a c =
    let s = c in
    omega (arith, rows_before s.args.self.now.bytes.now s.args.self.now.levels s.args.self.now.stored s.args.j s.requires.j_lt_height)

pub overflow_add-a : goal.overflow_add-a
overflow_add-a c =
    let s = c in
    omega (arith, rows_before s.args.self.now.bytes.now s.args.self.now.levels s.args.self.now.stored s.args.j s.requires.j_lt_height)

pub overflow_add-result : goal.overflow_add-result
overflow_add-result c =
    let s = c in
    omega (arith, rows_before s.args.self.now.bytes.now s.args.self.now.levels s.args.self.now.stored s.args.j s.requires.j_lt_height)

pub returns : goal.returns
returns c =
    let s = c in
    let w = row_bytes s.args.self.now.levels.entries in
    let a = s.args.self.now.levels.rows + s.args.j * w in
    ap (λ (n : ℕ). take n (drop a s.args.self.now.bytes.now)) (add-sub_cancel_left a w)
