use Rattle.std.proofs.Common.{◌≡◌, refl, ap, ◌∙◌, arith, ℕ, ◌+◌, ◌*◌, List, [], ◌++◌, map, length, get_or, take, length-append}
use lib.Seq.{length-take-le, paste-zero}
use Rattle.bits.specs.Rows.{with_number}
use Rattle.bits.specs.Bits.{concat, little_endian}
use Rattle.bits.proofs.LittleEndian.{length-numbers}
use Rattle.model.specs.Format.{table_from}
use Rattle.model.proofs.Format.Layout.{length_table}
use Rattle.model.proofs.Sums.{sum-take_le, sum-suc}
use Rattle.writer.specs.Writing.{overwrite_at}
use Rattle.writer.proofs.Numbers.{table_suc}
use Rattle.writer.proofs.Overwrite.{overwrite_at_next}
use Rattle.writer.proofs.put.put_table.Goals as goal

pub loop-t-init : goal.loop-t-init
loop-t-init c = (paste-zero c.args.target.now 40 [], refl)

pub put_number-requires : goal.put_number-requires
put_number-requires c = omega (arith, sum-take_le c.args.lengths.now c.loop-t.t)

pub overflow_add-start : goal.overflow_add-start
overflow_add-start c = record { fits = omega (arith, sum-take_le c.args.lengths.now c.loop-t.t, sum-take_le c.args.lengths.now (c.loop-t.t + 1), sum-suc c.args.lengths.now c.loop-t.t c.loop-t-test.true) }

pub loop-t-preserved : goal.loop-t-preserved
loop-t-preserved c =
    let l = c.loop-t in
    let xs = c.args.lengths.now in
    let old = c.args.target.now in
    let done = concat (map little_endian (table_from 0 (take l.t xs))) in
    let size : length done ≡ 8 * l.t =
    length-numbers (table_from 0 (take l.t xs))
    ∙ omega (arith, length_table 0 (take l.t xs), length-take-le l.t xs (omega arith)) in
    let a = little_endian l.start in
    let x = get_or xs l.t 0 in (
      c.put_number-in-loop-t.ensures
          ∙ ap (λ (d : List ℕ). with_number d (44 + 8 * l.t) x)
          (c.put_number.ensures ∙ ap (λ (d : List ℕ). with_number d (40 + 8 * l.t) l.start) l.invariant.0
          ∙ overwrite_at_next 40 done a old (40 + 8 * l.t) (omega arith) (omega arith))
          ∙ overwrite_at_next 40 (done ++ a) (little_endian x) old (44 + 8 * l.t) (omega (arith, length-append done a)) (omega (arith, length-append done a))
          ∙ ap (λ (n : List ℕ). overwrite_at 40 n old)
          (ap (λ (s : ℕ). done ++ little_endian s ++ little_endian x) l.invariant.1 ∙ table_suc xs l.t c.loop-t-test.true),
      omega (arith, sum-suc xs l.t c.loop-t-test.true),
    )
