use native.Mathlib.Omega.{arith}
use Rattle.bits.proofs.Bits.{rank-bits_of, count_le}
use Rattle.bit_rank.proofs.counts.rank1.Goals as goal

pub returns-then-i-row : goal.returns-then-i-row
returns-then-i-row c =
    let s = c in
    let row = s.args.row.bits.now in
    omega (arith, rank-bits_of 1 s.args.row.n row s.args.i s.requires.i_le_n, count_le 1 row s.args.i)

pub returns : goal.returns
returns c =
    let s = c in
    let row = s.args.row.bits.now in
    omega (arith, rank-bits_of 1 s.args.row.n row s.args.i s.requires.i_le_n, count_le 1 row s.args.i)
