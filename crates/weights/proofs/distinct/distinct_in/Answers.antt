use Rattle.weights.proofs.Documents.{distinct_bare, distinct-whole}
use Rattle.weights.proofs.distinct.distinct_in.Goals as goal

pub returns-then-tree-eq0 : goal.returns-then-tree-eq0
returns-then-tree-eq0 c =
    let g = c.args in
    distinct_bare g.tree.now.bytes.now g.tree.now.levels g.a g.b c.requires.0 c.requires.1 c.if-tree-eq0.true

pub returns : goal.returns
returns c =
    let g = c.args in
    distinct-whole g.tree.now.bytes.now g.tree.now.levels g.a g.b c.requires.0 c.requires.1 c.distinct_two.result c.distinct_two.ensures.0
