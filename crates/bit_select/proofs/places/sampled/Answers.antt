use mathlib.Core.Path.{ap, ◌∙◌}
use Prim.Native.Nat.{◌*◌}
use native.Mathlib.Omega.{arith}
use Rattle.bits.specs.Rows.{of_kind}
use Rattle.bits.proofs.Bits.{count_le, count_kind}
use Rattle.bits.proofs.Samples.{samples_at_lem}
use Rattle.bit_select.proofs.places.sampled.Goals as goal

pub of_kind-requires : goal.of_kind-requires
of_kind-requires c =
    let s = c in
    let row = s.args.row.bits.now in
    let t = s.args.t in
    omega (arith, samples_at_lem s.args.row.n s.args.row.samples.now row s.args.row.sampled.right t s.requires.t_bound, count_le 1 row (512 * t))

pub returns : goal.returns
returns c =
    let s = c in
    let row = s.args.row.bits.now in
    let t = s.args.t in
    let e = c.number.ensures.0 ∙ samples_at_lem s.args.row.n s.args.row.samples.now row s.args.row.sampled.right t s.requires.t_bound in
    let k = count_kind s.args.v row (512 * t) in
    (c.of_kind.ensures.0 ∙ ap (of_kind s.args.v (512 * t)) e ∙ k, c.of_kind.ensures.1)
