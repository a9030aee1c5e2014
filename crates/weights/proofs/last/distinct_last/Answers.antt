use native.Mathlib.Omega.{arith}
use Rattle.wavelet.specs.Levels.{level_of}
use Rattle.weights.proofs.LastRow.{two_few, two-are, two_le}
use Rattle.weights.proofs.last.distinct_last.Goals as goal

pub returns-then-count-lt2 : goal.returns-then-count-lt2
returns-then-count-lt2 c =
    let g = c.args in
    two_few (level_of g.tree.now.bytes.now g.tree.now.levels g.j) g.lo g.hi c.requires.1 (omega (arith, c.if-count-lt2.true))

pub overflow_add-result : goal.overflow_add-result
overflow_add-result c =
    let g = c.args in
    omega (arith, two_le (level_of g.tree.now.bytes.now g.tree.now.levels g.j) g.lo g.hi c.requires.1 c.ones_between-high.result)

pub returns : goal.returns
returns c =
    let g = c.args in
    two-are (level_of g.tree.now.bytes.now g.tree.now.levels g.j) g.lo g.hi c.requires.1 c.ones_between-high.result c.ones_between-high.ensures (omega arith)
