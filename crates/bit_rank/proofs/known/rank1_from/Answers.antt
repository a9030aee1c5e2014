use native.Mathlib.Omega.{arith}
use Rattle.bit_rank.proofs.Onward.{rank-onward}
use Rattle.bit_rank.proofs.known.rank1_from.Goals as goal

pub overflow_add-result : goal.overflow_add-result
overflow_add-result c =
    let s = c in
    let g = s.args in
    omega (arith, rank-onward g.row.n g.row.bits.now g.x g.y g.c c.ones_onward.result s.requires.x_le_y.0 s.requires.x_le_y.1 s.requires.x_le_y.2 c.ones_onward.ensures.0)

pub returns-then-x-row : goal.returns-then-x-row
returns-then-x-row c =
    let s = c in
    let g = s.args in
    rank-onward g.row.n g.row.bits.now g.x g.y g.c c.ones_onward.result s.requires.x_le_y.0 s.requires.x_le_y.1 s.requires.x_le_y.2 c.ones_onward.ensures.0
