use mathlib.Core.Path.{◌≡◌, sym, ap, ◌∙◌}
use mathlib.Core.List.{List, ◌++◌}
use Prim.Native.Nat.{ℕ, ◌*◌}
use native.Mathlib.Omega.{arith}
use lib.ListN.{drop}
use Rattle.bits.specs.Bits.{sample_count, bits_of}
use Rattle.bits.specs.Rows.{with_number}
use Rattle.bits.proofs.Bits.{count-zero, rank-bits_of}
use Rattle.bits.proofs.Samples.{samples_to_none, samples_to_all, samples_to_store}
use Rattle.bit_rows.proofs.write.fill_samples.Goals as goal

pub loop-t-init : goal.loop-t-init
loop-t-init c =
    let row = c.args.row.now in (
      sym (ap (λ (l : List ℕ). l ++ c.args.samples.now) (samples_to_none (bits_of c.args.n row))),
      (λ _. sym (count-zero 1 row)),
      omega arith,
    )

pub loop-t-preserved : goal.loop-t-preserved
loop-t-preserved c =
    let l = c.loop-t in
    let bits = bits_of c.args.n c.args.row.now in
    let e = l.invariant.1 c.loop-t-test.true in
    let now = e ∙ sym (rank-bits_of 1 c.args.n c.args.row.now (512 * l.t) (omega arith)) in (
      c.put_number.ensures ∙ ap (λ (x : List ℕ). with_number x (4 * l.t) l.count) l.invariant.0 ∙ samples_to_store bits c.args.samples.now l.t l.count now,
      (λ m. omega (arith, e, c.block_ones-count.ensures.0 (omega arith))),
      omega arith,
    )

pub returns : goal.returns
returns c =
    let l = c.loop-t in
    let n = c.args.n in
    let q : l.t ≡ sample_count n = omega arith in
    rw q at l.invariant.0 ∙ ap (λ (x : List ℕ). x ++ drop (4 * sample_count n) c.args.samples.now) (samples_to_all n c.args.row.now)
