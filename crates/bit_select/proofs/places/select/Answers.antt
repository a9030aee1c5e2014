use mathlib.Core.Path.{sym, ap, ◌∙◌}
use native.Mathlib.Omega.{arith}
use Rattle.bits.specs.Row.{content}
use Rattle.bits.specs.Rows.{count_below}
use Rattle.bits.specs.Sequences.{bit, select}
use Rattle.bits.proofs.Bits.{count-zero}
use Rattle.bit_select.proofs.Search.{found-zero, found_none}
use Rattle.bit_select.proofs.places.select.Goals as goal

pub returns-then-j-eq0 : goal.returns-then-j-eq0
returns-then-j-eq0 c =
    let row = c.args.row in
    let v = bit c.args.v in
    sym (ap (select v (content row)) c.if-j-eq0.true ∙ found-zero v row.n row.bits.now)

pub returns-then-row-eq0 : goal.returns-then-row-eq0
returns-then-row-eq0 c =
    let row = c.args.row in
    let v = bit c.args.v in
    let e = c.if-row-eq0.true in
    sym (found_none v row.n row.bits.now c.args.j (omega (arith, ap (count_below v row.bits.now) e, count-zero v row.bits.now)) ∙ e)

pub select_blocks-requires : goal.select_blocks-requires
select_blocks-requires c =
    record { many_bound = (omega arith, omega arith, omega (arith, count-zero (bit c.args.v) c.args.row.bits.now)) }
