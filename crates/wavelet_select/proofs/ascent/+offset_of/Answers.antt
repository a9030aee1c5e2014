use native.Mathlib.Omega.{arith}
use mathlib.Core.Path.{◌∙◌}
use Rattle.wavelet_select.proofs.Places.{half_inside, none_below, up_found, filled, ones_before}
use Rattle.wavelet_select.proofs.ascent.+offset_of.Goals as goal

pub offset_of-below-requires : goal.offset_of-below-requires
offset_of-below-requires t c =
    let g = c.args in
    let l = c.requires.j_le_height in
    let inside =
    half_inside g.tree.now g.d g.j g.start g.end g.k (omega arith) l.1 l.2 c.rank_node-node.ensures c.bit_of-bit.ensures c.select_unpredictable-from.ensures
    c.select_unpredictable-to.ensures in
    (omega arith, (omega arith, inside.1, omega (arith, inside.2, l.2)))

pub overflow_sub-to : goal.overflow_sub-to
overflow_sub-to t c =
    let g = c.args in
    let l = c.requires.j_le_height in
    (half_inside g.tree.now g.d g.j g.start g.end g.k (omega arith) l.1 l.2 c.rank_node-node.ensures c.bit_of-bit.ensures c.select_unpredictable-from.ensures
    c.select_unpredictable-to.ensures).1

pub returns-then-below-to : goal.returns-then-below-to
returns-then-below-to t c =
    let g = c.args in
    let l = c.requires.j_le_height in
    none_below g.tree.now g.d g.j g.start g.end g.k (omega arith) l.1 l.2 c.rank_node-node.ensures c.bit_of-bit.ensures c.select_unpredictable-from.ensures
    c.select_unpredictable-to.ensures c.offset_of-below.ensures c.if-below-to.true

pub up-requires-clause-j_lt_height : goal.up-requires-clause-j_lt_height
up-requires-clause-j_lt_height t c =
    let g = c.args in
    let l = c.requires.j_le_height in
    let some =
    filled g.tree.now g.d g.j g.start g.end g.k (omega arith) l.1 l.2 c.rank_node-node.ensures c.bit_of-bit.ensures c.select_unpredictable-from.ensures
    c.select_unpredictable-to.ensures c.offset_of-below.ensures c.if-below-to.false in
    (omega arith, some.0, l.2, some.1)

pub up-requires-clause-before_value : goal.up-requires-clause-before_value
up-requires-clause-before_value t c = ones_before _ c.args.start c.args.end c.rank_node-node.ensures

pub returns : goal.returns
returns t c =
    let g = c.args in
    let l = c.requires.j_le_height in
    c.up.ensures
    ∙ up_found g.tree.now g.d g.j g.start g.end g.k (omega arith) l.1 l.2 c.rank_node-node.ensures c.bit_of-bit.ensures c.select_unpredictable-from.ensures
    c.select_unpredictable-to.ensures c.offset_of-below.ensures c.if-below-to.false
