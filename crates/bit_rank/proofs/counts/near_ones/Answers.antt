use native.Mathlib.Omega.{arith}
use Rattle.bit_rank.proofs.Near.{near_words}
use Rattle.bit_rank.proofs.counts.near_ones.Goals as goal

pub returns : goal.returns
returns c =
    let s = c in
    let near = near_words s.args.row.now (λ i. (c.type_inv.row i).fits) s.args.k s.args.h s.args.w s.requires.1 s.requires.2 in
    (omega (arith, near), omega arith)
