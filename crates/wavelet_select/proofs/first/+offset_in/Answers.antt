use native.Mathlib.Omega.{arith}
use Rattle.wavelet.specs.Spans.{span}
use Rattle.wavelet_select.proofs.FirstEntries.{first-all, half_next, before_lo, alone, up_first, up_places}
use Rattle.wavelet_select.proofs.first.+offset_in.Goals as goal

pub returns-then-hi-lo : goal.returns-then-hi-lo
returns-then-hi-lo t c =
    let g = c.args in
    let l = c.requires.j_le_height in
    first-all g.tree.now.bytes.now g.tree.now.levels g.d g.j l.0 (span g.start g.lo g.hi g.end) l.1 g.count l.2 c.if-hi-lo.true

pub offset_in-below-requires : goal.offset_in-below-requires
offset_in-below-requires t c =
    let g = c.args in
    let next =
    half_next g.tree.now g.d g.count g.j (span g.start g.lo g.hi g.end) c.requires.j_le_height c.if-hi-lo.false c.rank_node-node.ensures c.halve_range-two.ensures.0
    c.bit_of-bit.ensures c.half-s.ensures in
    (omega (arith, next.0), next)

pub returns-then-s-hi : goal.returns-then-s-hi
returns-then-s-hi t c =
    let g = c.args in
    alone g.tree.now g.d g.count g.j (span g.start g.lo g.hi g.end) c.requires.j_le_height c.if-hi-lo.false c.rank_node-node.ensures c.halve_range-two.ensures.0
    c.bit_of-bit.ensures c.half-s.ensures c.offset_in-below.ensures c.if-s-hi.true

pub overflow_add-before : goal.overflow_add-before
overflow_add-before t c =
    let g = c.args in
    let before =
    before_lo g.tree.now g.d g.count g.j (span g.start g.lo g.hi g.end) c.requires.j_le_height c.if-hi-lo.false c.rank_node-node.ensures c.halve_range-two.ensures.0
    c.bit_of-bit.ensures c.half-s.ensures in
    omega (arith, before.1)

pub up-requires-clause-before_value : goal.up-requires-clause-before_value
up-requires-clause-before_value t c =
    let g = c.args in
    before_lo g.tree.now g.d g.count g.j (span g.start g.lo g.hi g.end) c.requires.j_le_height c.if-hi-lo.false c.rank_node-node.ensures c.halve_range-two.ensures.0
    c.bit_of-bit.ensures c.half-s.ensures

pub up-requires-clause-j_lt_height : goal.up-requires-clause-j_lt_height
up-requires-clause-j_lt_height t c =
    let g = c.args in
    up_places g.tree.now g.d g.count g.j (span g.start g.lo g.hi g.end) c.requires.j_le_height c.if-hi-lo.false c.rank_node-node.ensures c.halve_range-two.ensures.0
    c.bit_of-bit.ensures c.half-s.ensures c.offset_in-below.ensures

pub returns : goal.returns
returns t c =
    let g = c.args in
    up_first g.tree.now g.d g.count g.j (span g.start g.lo g.hi g.end) c.requires.j_le_height c.if-hi-lo.false c.rank_node-node.ensures c.halve_range-two.ensures.0
    c.bit_of-bit.ensures c.half-s.ensures c.offset_in-below.ensures c.up.ensures
