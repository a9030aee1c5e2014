use mathlib.Core.Path.{sym, ap, ◌∙◌}
use Rattle.bits.specs.Rows.{of_kind}
use Rattle.bits.specs.Sequences.{bit}
use Rattle.bits.proofs.Bits.{rank-bits_of, count_kind}
use Rattle.bit_rank.proofs.counts.rank.Goals as goal

pub returns : goal.returns
returns c =
    let row = c.args.row in
    let v = c.args.v in
    let i = c.args.i in
    let h = c.requires.i_le_n in (
      c.of_kind.ensures.0
          ∙ ap (of_kind v i) (c.rank1.ensures.0 ∙ rank-bits_of 1 row.n row.bits.now i h)
          ∙ count_kind v row.bits.now i
          ∙ sym (rank-bits_of (bit v) row.n row.bits.now i h),
      c.of_kind.ensures.1,
    )
