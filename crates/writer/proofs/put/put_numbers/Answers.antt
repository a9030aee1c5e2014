use Rattle.std.proofs.Common.{◌≡◌, ap, ◌∙◌, arith, ℕ, ◌*◌, ◌^◌, List, map, length, get_or, take}
use lib.Seq.{length-take-le}
use Rattle.bits.specs.Rows.{with_number}
use Rattle.bits.specs.Bits.{concat, little_endian}
use Rattle.bits.proofs.LittleEndian.{length-numbers}
use Rattle.model.proofs.Lists.{within_at}
use Rattle.writer.specs.Writing.{overwrite_at}
use Rattle.writer.proofs.Numbers.{numbers-suc}
use Rattle.writer.proofs.Overwrite.{overwrite_at_next}
use Rattle.writer.proofs.put.put_numbers.Goals as goal

pub put_number-requires : goal.put_number-requires
put_number-requires c = (omega arith, within_at (2 ^ 32) c.args.numbers.now c.loop-i.i c.requires.2 c.loop-i-test.true)

pub loop-i-preserved : goal.loop-i-preserved
loop-i-preserved c =
    let l = c.loop-i in
    let xs = c.args.numbers.now in
    let old = c.args.target.now in
    let done = concat (map little_endian (take l.i xs)) in
    let x = get_or xs l.i 0 in
    let size : length done ≡ 4 * l.i = length-numbers (take l.i xs) ∙ ap (λ (n : ℕ). 4 * n) (length-take-le l.i xs (omega arith)) in
    c.put_number.ensures ∙ ap (λ (b : List ℕ). with_number b (4 * l.i) x) l.invariant
    ∙ overwrite_at_next 0 done (little_endian x) old (4 * l.i) (omega arith) (omega arith)
    ∙ ap (λ (n : List ℕ). overwrite_at 0 n old) (numbers-suc xs l.i (omega arith))
