use mathlib.Core.Path.{sym, ◌∙◌}
use native.Mathlib.Numerals.{add-one}
use native.Mathlib.Omega.{arith}
use Rattle.bits.specs.Bits.{bit_at}
use Rattle.bits.specs.Sequences.{bit}
use Rattle.bits.proofs.Bits.{count-suc, count_mono}
use Rattle.bit_select.proofs.Halving.{byte-bit}
use Rattle.bit_select.proofs.Search.{found_at, found_none}
use Rattle.bits.proofs.Tests.{bit_eq, bit_ne}
use Rattle.bit_select.proofs.places.find_bit.Goals as goal
use Rattle.bit_select.proofs.places.find_bit.Goals.{then-bit-v+else-count-j, else-bit-v}

pub returns-then-count-j : goal.returns-then-count-j
returns-then-count-j c =
    let row = c.args.row in
    let e = byte-bit c.args.v in
    sym (found_at (bit c.args.v) row.n row.bits.now c.loop-i.i c.args.j (omega arith) (sym c.bit.ensures.0 ∙ c.if-bit-v.true ∙ e) (omega arith))

pub loop-i-preserved : goal.loop-i-preserved
loop-i-preserved c =
    let i = c.loop-i.i in
    let v = bit c.args.v in
    let row = c.args.row.bits.now in
    let b = c.bit.ensures.0 in
    let e = byte-bit c.args.v in
    let step = rw (← add-one i) at (count-suc v row i) in
    elim c.if-bit-v.branch [
      | then-bit-v+else-count-j w ↦ omega (arith, step, bit_eq v (bit_at row i) (sym (sym b ∙ w.if-bit-v.true ∙ e)))
      | else-bit-v w ↦ omega (arith, step, bit_ne v (bit_at row i) (λ q. w.if-bit-v.false (b ∙ sym q ∙ sym e)))
    ]

pub returns : goal.returns
returns c =
    let row = c.args.row in
    let v = bit c.args.v in
    sym (found_none v row.n row.bits.now c.args.j (omega (arith, count_mono v row.bits.now row.n c.loop-i.i (omega arith))))
