-- the documents of two nodes beside each other are those of the node above
use native.Mathlib.Omega.{arith}
use Rattle.wavelet.specs.Levels.{level_of}
use Rattle.wavelet.specs.Spans.{span}
use Rattle.wavelet.proofs.Steps.{level-of}
use Rattle.weights.proofs.Documents.{documents_few, documents-last, documents-halves, both}
use Rattle.weights.proofs.distinct.+distinct_node_distinct_two.Goals as goal

pub distinct_node-returns : goal.distinct_node-returns
distinct_node-returns t c =
    let g = c.args in
    let k = c.halve_known-known in
    let d =
    documents-halves (level_of g.tree.now.bytes.now g.tree.now.levels) g.tree.now.levels.entries g.tree.now.levels.height (level-of g.tree.now.bytes.now g.tree.now.levels) g.j (span g.start g.lo g.hi g.end) c.requires.1
    (omega (arith, c.requires.0)) k.result.two k.ensures.two_value.0 c.distinct_two-documents.result c.distinct_two-documents.ensures in
    (d.0, d.1, k.ensures.two_value.1)

pub distinct_two-returns-then-j-tree : goal.distinct_two-returns-then-j-tree
distinct_two-returns-then-j-tree t c =
    let g = c.args in
    let last = c.if-j-tree.true in
    let low =
    documents-last (level_of g.tree.now.bytes.now g.tree.now.levels) g.tree.now.levels.entries g.tree.now.levels.height (level-of g.tree.now.bytes.now g.tree.now.levels) g.j (span g.start g.lo g.hi g.middle) c.requires.1 last
    c.distinct_last.result c.distinct_last.ensures in
    let high =
    documents-last (level_of g.tree.now.bytes.now g.tree.now.levels) g.tree.now.levels.entries g.tree.now.levels.height (level-of g.tree.now.bytes.now g.tree.now.levels) g.j (span g.middle g.from g.to g.end) c.requires.2 last
    c.distinct_last-then-j-tree.result c.distinct_last-then-j-tree.ensures in
    both low high

pub distinct_two-returns-then-more-lt2 : goal.distinct_two-returns-then-more-lt2
distinct_two-returns-then-more-lt2 t c =
    let g = c.args in
    let r = c.requires in
    let low =
    documents_few (level_of g.tree.now.bytes.now g.tree.now.levels) g.tree.now.levels.entries g.tree.now.levels.height (level-of g.tree.now.bytes.now g.tree.now.levels) g.j (span g.start g.lo g.hi g.middle) r.1 r.0 (omega arith) in
    let high =
    documents_few (level_of g.tree.now.bytes.now g.tree.now.levels) g.tree.now.levels.entries g.tree.now.levels.height (level-of g.tree.now.bytes.now g.tree.now.levels) g.j (span g.middle g.from g.to g.end) r.2 r.0 (omega arith) in
    both low high

pub distinct_two-returns-then-count-lt2 : goal.distinct_two-returns-then-count-lt2
distinct_two-returns-then-count-lt2 t c =
    let g = c.args in
    let r = c.requires in
    let low =
    documents_few (level_of g.tree.now.bytes.now g.tree.now.levels) g.tree.now.levels.entries g.tree.now.levels.height (level-of g.tree.now.bytes.now g.tree.now.levels) g.j (span g.start g.lo g.hi g.middle) r.1 r.0 (omega arith) in
    let high = c.distinct_node-high.ensures in
    both low (high.0, high.1)

pub distinct_two-returns-then-more-lt2-2 : goal.distinct_two-returns-then-more-lt2-2
distinct_two-returns-then-more-lt2-2 t c =
    let g = c.args in
    let r = c.requires in
    let low = c.distinct_node-low.ensures in
    let high =
    documents_few (level_of g.tree.now.bytes.now g.tree.now.levels) g.tree.now.levels.entries g.tree.now.levels.height (level-of g.tree.now.bytes.now g.tree.now.levels) g.j (span g.middle g.from g.to g.end) r.2 r.0 (omega arith) in
    both (low.0, low.1) high
