use mathlib.Core.Path.{◌≡◌, ◌∙◌}
use Prim.Native.Nat.{◌^◌, ◌-◌, ◌/◌, ◌%◌}
use lib.Bits.{bit_and}
use lib.Count.{ones}
use Rattle.bit_rank.specs.Near.{kept}
use Rattle.bits.specs.Rows.{word_at}
use Rattle.bits.proofs.Bits.{word_lt}
use Rattle.bit_rank.proofs.Near.{ones-kept}
use Rattle.bit_rank.proofs.counts.kept_ones.Goals as goal

pub returns : goal.returns
returns c =
    let s = c in
    let x = word_at s.args.row.now s.args.k in
    let b = s.args.u / 4 % 2 in
    let l = word_lt s.args.row.now (λ i. (c.type_inv.row i).fits) s.args.k in
    let e : c.word_ones.result ≡ ones (bit_and x (kept b (2 ^ 64 - 1))) = cc in
    (e ∙ ones-kept b x l, c.word_ones.ensures.1)
