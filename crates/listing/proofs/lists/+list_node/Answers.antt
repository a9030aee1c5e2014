use native.Mathlib.Omega.{arith}
use mathlib.Core.Path.{◌≡◌, sym, ap, ◌∙◌}
use mathlib.Core.Bool.{true, false}
use lib.ListN.{length}
use Rattle.wavelet.specs.declared.Span.{Span}
use Rattle.wavelet.specs.Levels.{level_of}
use Rattle.wavelet.proofs.Ranges.{node_lt, node_few}
use Rattle.answers.proofs.Stores.{written_none, written-pair, written_both}
use Rattle.listing.proofs.Listed.{pairs-empty, pairs_leaf, pairs-halves, pairs-count}
use Rattle.listing.proofs.Numbers.{number_lt}
use Rattle.listing.proofs.Noted.{noted-empty, noted_leaf, noted_both}
use Prim.Native.Nat.{◌+◌, ◌-◌, ◌*◌, ◌<◌}
use Rattle.listing.proofs.lists.+list_node.Goals as goal

pub returns-then-lo-hi : goal.returns-then-lo-hi
returns-then-lo-hi t c =
    let s = c in
    let g = s.args in
    let n : Span = record { start = g.start; lo = g.lo; hi = g.hi; end = g.end } in record {
      written = written_none g.at g.answers.now (pairs-empty (level_of g.tree.now.bytes.now g.tree.now.levels) (g.tree.now.levels.height - g.j) g.j g.q n c.if-lo-hi.true);
      cursors_after = sym (noted-empty (level_of g.tree.now.bytes.now g.tree.now.levels) (g.tree.now.levels.height - g.j) g.j g.q n g.cursors.now c.if-lo-hi.true);
    }

pub put_pair-requires : goal.put_pair-requires
put_pair-requires t c =
    let s = c in
    let g = s.args in
    let n : Span = record { start = g.start; lo = g.lo; hi = g.hi; end = g.end } in
    let o = s.requires.j_le_height.2 in
    let low = s.args.tree.now.stored.few in (
      omega (arith, ap length (pairs_leaf g.tree.now.bytes.now g.tree.now.levels g.j g.q n (omega arith) (omega arith))),
      omega (arith, node_few g.q g.j g.tree.now.levels.height s.requires.j_le_height.1 s.requires.j_le_height.0 s.args.tree.now.stored.low),
      omega arith,
    )

pub returns-then-j-tree : goal.returns-then-j-tree
returns-then-j-tree t c =
    let s = c in
    let g = s.args in
    let n : Span = record { start = g.start; lo = g.lo; hi = g.hi; end = g.end } in
    let o = s.requires.j_le_height.2 in
    let e : g.j ≡ g.tree.now.levels.height = omega arith in record {
      written = written-pair g.at g.answers.now g.q (g.hi - g.lo) c.put_pair.new.answers
          (pairs_leaf g.tree.now.bytes.now g.tree.now.levels g.j g.q n e (omega arith)) c.put_pair.ensures;
      cursors_after = sym (noted_leaf g.tree.now.bytes.now g.tree.now.levels g.j g.q n g.cursors.now e);
    }

pub note_end-requires : goal.note_end-requires
note_end-requires t c =
    let f = c in
    let s = f in
    let g = s.args in
    let o = s.requires.j_le_height.2 in
    let l : g.j < g.tree.now.levels.height = omega (arith, s.requires.j_le_height.0, f.if-j-tree.false) in (
      omega (arith, s.args.tree.now.stored.low),
      omega (arith, number_lt g.tree.now.levels.height g.j g.q l s.requires.j_le_height.1, s.requires.j_le_height.4),
      omega (arith, o.range, o.to, o.inside, s.args.tree.now.stored.few),
    )

pub halve-two-requires : goal.halve-two-requires
halve-two-requires t c =
    let f = c in
    let s = f in
    let g = s.args in record {
      j_lt_height = (omega (arith, s.requires.j_le_height.0, f.if-j-tree.false), s.requires.j_le_height.2);
    }

pub overflow_mul-q : goal.overflow_mul-q
overflow_mul-q t c =
    let s = c in
    let g = s.args in
    omega (arith, node_few g.q g.j g.tree.now.levels.height s.requires.j_le_height.1 s.requires.j_le_height.0 s.args.tree.now.stored.low)

pub list_node-middle-requires : goal.list_node-middle-requires
list_node-middle-requires t c =
    let w = c in
    let m = w in
    let f = m in
    let s = f in
    let g = s.args in
    let n : Span = record { start = g.start; lo = g.lo; hi = g.hi; end = g.end } in
    let l : g.j < g.tree.now.levels.height = omega (arith, s.requires.j_le_height.0, f.if-j-tree.false) in (
      omega (arith, s.decreases),
      (
        omega arith,
        omega (arith, node_lt g.q g.j false s.requires.j_le_height.1),
        w.halve-two.ensures.1,
        omega (arith, s.requires.j_le_height.3, pairs-count g.tree.now.bytes.now g.tree.now.levels g.j g.q n w.halve-two.result w.halve-two.ensures.0 l),
        omega (arith, m.note_end.auto.cursors, s.requires.j_le_height.4),
      ),
    )

pub returns-then-one : goal.returns-then-one
returns-then-one t c =
    let k = c in
    let w = k in
    let m = w in
    let f = m in
    let i = f in
    let s = i in
    let g = s.args in
    let n : Span = record { start = g.start; lo = g.lo; hi = g.hi; end = g.end } in
    let l : g.j < g.tree.now.levels.height = omega (arith, s.requires.j_le_height.0, f.if-j-tree.false) in
    let none = c.if-one.true in
    let t1 = k.list_node-middle.new.cursors in record {
      written = written_both g.at g.answers.now
          (pairs-halves g.tree.now.bytes.now g.tree.now.levels g.j g.q n w.halve-two.result w.halve-two.ensures.0 l)
          k.list_node-middle.ensures.written
          (written_none _ _ (pairs-empty (level_of g.tree.now.bytes.now g.tree.now.levels) (g.tree.now.levels.height - (g.j + 1)) (g.j + 1) (2 * g.q + 1) w.halve-two.result.one none));
      cursors_after = sym (noted-empty (level_of g.tree.now.bytes.now g.tree.now.levels) (g.tree.now.levels.height - (g.j + 1)) (g.j + 1) (2 * g.q + 1) w.halve-two.result.one t1 none)
          ∙ noted_both g.tree.now.bytes.now g.tree.now.levels g.j g.q n g.cursors.now w.halve-two.result w.halve-two.ensures.0 l i.if-lo-hi.false
          m.note_end.new.cursors t1 m.note_end.ensures k.list_node-middle.ensures.cursors_after;
    }

pub overflow_add-j-2 : goal.overflow_add-j-2
overflow_add-j-2 t c =
    let s = c in
    let g = s.args in
    omega (arith, s.requires.j_le_height.0, s.args.tree.now.stored.low)

pub overflow_mul-q-2 : goal.overflow_mul-q-2
overflow_mul-q-2 t c =
    let s = c in
    let g = s.args in
    omega (arith, node_few g.q g.j g.tree.now.levels.height s.requires.j_le_height.1 s.requires.j_le_height.0 s.args.tree.now.stored.low)

pub overflow_add-q : goal.overflow_add-q
overflow_add-q t c =
    let s = c in
    let g = s.args in
    omega (arith, node_few g.q g.j g.tree.now.levels.height s.requires.j_le_height.1 s.requires.j_le_height.0 s.args.tree.now.stored.low)

pub list_node-requires : goal.list_node-requires
list_node-requires t c =
    let k = c in
    let w = k in
    let m = w in
    let f = m in
    let s = f in
    let g = s.args in
    let n : Span = record { start = g.start; lo = g.lo; hi = g.hi; end = g.end } in
    let l : g.j < g.tree.now.levels.height = omega (arith, s.requires.j_le_height.0, f.if-j-tree.false) in (
      omega (arith, s.decreases),
      (
        omega arith,
        node_lt g.q g.j true s.requires.j_le_height.1,
        w.halve-two.ensures.2,
        omega (arith, k.list_node-middle.auto.answers, k.list_node-middle.ensures.written.next, s.requires.j_le_height.3, pairs-count g.tree.now.bytes.now g.tree.now.levels g.j g.q n w.halve-two.result w.halve-two.ensures.0 l),
        omega (arith, k.list_node-middle.auto.cursors, m.note_end.auto.cursors, s.requires.j_le_height.4),
      ),
    )

pub returns : goal.returns
returns t c =
    let y = c in
    let k = y in
    let w = k in
    let m = w in
    let f = m in
    let i = f in
    let s = i in
    let g = s.args in
    let n : Span = record { start = g.start; lo = g.lo; hi = g.hi; end = g.end } in
    let l : g.j < g.tree.now.levels.height = omega (arith, s.requires.j_le_height.0, f.if-j-tree.false) in record {
      written = written_both g.at g.answers.now
          (pairs-halves g.tree.now.bytes.now g.tree.now.levels g.j g.q n w.halve-two.result w.halve-two.ensures.0 l)
          k.list_node-middle.ensures.written y.list_node.ensures.written;
      cursors_after = y.list_node.ensures.cursors_after
          ∙ noted_both g.tree.now.bytes.now g.tree.now.levels g.j g.q n g.cursors.now w.halve-two.result w.halve-two.ensures.0 l i.if-lo-hi.false
          m.note_end.new.cursors k.list_node-middle.new.cursors m.note_end.ensures k.list_node-middle.ensures.cursors_after;
    }
