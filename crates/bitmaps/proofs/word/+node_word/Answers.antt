use Prim.Native.Nat.{◌+◌, ◌-◌, ◌*◌, ◌%◌, ◌^◌}
use native.Mathlib.Omega.{arith}
use mathlib.Core.Path.{◌≡◌, sym, ◌∙◌}
use Rattle.wavelet.specs.declared.Span.{Span}
use Rattle.wavelet.specs.Levels.{level_of}
use Rattle.wavelet.proofs.Steps.{level-of}
use Rattle.bitmaps.specs.Words.{span_word}
use Rattle.bits.proofs.Bits.{shl_one_word}
use Rattle.bitmaps.proofs.Words.{Half, half_empty, half_same, word_fits, word_leaf, word_last, word_node, below_width, small_width, document_fits}
use Rattle.bitmaps.proofs.word.+node_word.Goals.{then-zero, else-zero, then-one, else-one}
use Rattle.bitmaps.proofs.word.+node_word.Goals as goal

pub returns-then-j-height : goal.returns-then-j-height
returns-then-j-height t c =
    let g = c.args in
    let n : Span = record { start = g.start; lo = g.lo; hi = g.hi; end = g.end } in
    let leaf : g.tree.now.levels.height - g.j ≡ 0 = omega (arith, c.if-j-height.true) in
    (sym (word_leaf (level_of g.tree.now.bytes.now g.tree.now.levels) (g.tree.now.levels.height - g.j) g.j n leaf c.requires.j_le_height.2), rw leaf (omega arith))

pub document_at-requires : goal.document_at-requires
document_at-requires t c =
    let o = c.requires.j_le_height.3 in record {
      j_lt_height = (
        omega (arith, c.requires.j_le_height.0, c.if-j-height.false),
        record { from = o.from; range = omega arith; to = omega (arith, o.to, c.if-hi-lo.true); inside = o.inside },
      );
    }

pub overflow_shl-result : goal.overflow_shl-result
overflow_shl-result t c =
    document_fits (c.args.tree.now.levels.height - c.args.j) c.document_at.result (omega (arith, c.requires.j_le_height.1)) c.document_at.ensures.0

pub returns-then-hi-lo : goal.returns-then-hi-lo
returns-then-hi-lo t c =
    let g = c.args in
    let n : Span = record { start = g.start; lo = g.lo; hi = g.hi; end = g.end } in
    let d = c.document_at.result in
    let one : g.hi ≡ g.lo + 1 = c.if-hi-lo.true in
    let w : 1 * 2 ^ d % 2 ^ 64 ≡ span_word (level_of g.tree.now.bytes.now g.tree.now.levels) (g.tree.now.levels.height - g.j) g.j n
    = shl_one_word d (document_fits (g.tree.now.levels.height - g.j) d (omega (arith, c.requires.j_le_height.1)) c.document_at.ensures.0) ∙ sym (rw one c.document_at.ensures.1) in
    (w, rw w (word_fits (level_of g.tree.now.bytes.now g.tree.now.levels) (g.tree.now.levels.height - g.j) g.j n))

pub returns-then-j-height-2 : goal.returns-then-j-height-2
returns-then-j-height-2 t c =
    let g = c.args in
    let n : Span = record { start = g.start; lo = g.lo; hi = g.hi; end = g.end } in
    let k : g.tree.now.levels.height - g.j ≡ 1 = omega (arith, c.if-j-height-2.true) in (
      c.last_word.ensures.0 ∙ sym (word_last (level_of g.tree.now.bytes.now g.tree.now.levels) g.tree.now.levels.entries (g.tree.now.levels.height - g.j) g.j n k (level-of g.tree.now.bytes.now g.tree.now.levels g.j (omega arith)) c.requires.j_le_height.3),
      rw k c.last_word.ensures.1,
    )

pub node_word-first-requires : goal.node_word-first-requires
node_word-first-requires t c =
    let above = c.if-j-height.false in
    let o = c.halve-two.ensures.1 in (
      omega (arith, c.decreases, above, c.requires.j_le_height.0),
      ((omega (arith, above, c.requires.j_le_height.0), omega (arith, c.requires.j_le_height.1), omega (arith, o.range, c.if-zero.false), o)),
    )

pub overflow_add-j-else-one : goal.overflow_add-j-else-one
overflow_add-j-else-one t c =
    omega (arith, c.requires.j_le_height.0, c.args.tree.now.stored.low)

pub node_word-second-requires : goal.node_word-second-requires
node_word-second-requires t c =
    let above = c.if-j-height.false in
    let o = c.halve-two.ensures.2 in (
      omega (arith, c.decreases, above, c.requires.j_le_height.0),
      ((omega (arith, above, c.requires.j_le_height.0), omega (arith, c.requires.j_le_height.1), omega (arith, o.range, c.if-one.false), o)),
    )

pub overflow_sub-height : goal.overflow_sub-height
overflow_sub-height t c =
    c.requires.j_le_height.0

pub overflow_sub-height-2 : goal.overflow_sub-height-2
overflow_sub-height-2 t c =
    omega (arith, c.requires.j_le_height.0, c.if-j-height.false)

pub overflow_shl-height : goal.overflow_shl-height
overflow_shl-height t c =
    omega (arith, c.requires.j_le_height.1)

pub beside-requires : goal.beside-requires
beside-requires t c =
    let g = c.args in
    let half-first : Half g.tree.now.bytes.now g.tree.now.levels (g.j + 1) c.halve-two.result.zero c.if-zero.first =
    elim c.if-zero.branch [
      | then-zero w ↦ half_empty g.tree.now.bytes.now g.tree.now.levels (g.j + 1) c.halve-two.result.zero c.if-zero.first w.if-zero.true w.first-is
      | else-zero w ↦ half_same g.tree.now.bytes.now g.tree.now.levels (g.j + 1) c.halve-two.result.zero c.if-zero.first w.node_word-first.result w.node_word-first.ensures w.first-is
    ] in
    let half-second : Half g.tree.now.bytes.now g.tree.now.levels (g.j + 1) c.halve-two.result.one c.if-one.second =
    elim c.if-one.branch [
      | then-one w ↦ half_empty g.tree.now.bytes.now g.tree.now.levels (g.j + 1) c.halve-two.result.one c.if-one.second w.if-one.true w.second-is
      | else-one w ↦ half_same g.tree.now.bytes.now g.tree.now.levels (g.j + 1) c.halve-two.result.one c.if-one.second w.node_word-second.result w.node_word-second.ensures w.second-is
    ] in
    let w = shl_one_word (g.tree.now.levels.height - g.j - 1) (omega (arith, c.requires.j_le_height.1)) in (
      below_width g.tree.now.levels.height g.j c.if-zero.first (1 * 2 ^ (g.tree.now.levels.height - g.j - 1) % 2 ^ 64) half-first.1 w,
      below_width g.tree.now.levels.height g.j c.if-one.second (1 * 2 ^ (g.tree.now.levels.height - g.j - 1) % 2 ^ 64) half-second.1 w,
      rw w (small_width (g.tree.now.levels.height - g.j - 1) (omega (arith, c.requires.j_le_height.1, c.requires.j_le_height.0, c.if-j-height.false))),
    )

pub returns : goal.returns
returns t c =
    let g = c.args in
    let n : Span = record { start = g.start; lo = g.lo; hi = g.hi; end = g.end } in
    let two = c.halve-two in
    let half-first : Half g.tree.now.bytes.now g.tree.now.levels (g.j + 1) c.halve-two.result.zero c.if-zero.first =
    elim c.if-zero.branch [
      | then-zero w ↦ half_empty g.tree.now.bytes.now g.tree.now.levels (g.j + 1) c.halve-two.result.zero c.if-zero.first w.if-zero.true w.first-is
      | else-zero w ↦ half_same g.tree.now.bytes.now g.tree.now.levels (g.j + 1) c.halve-two.result.zero c.if-zero.first w.node_word-first.result w.node_word-first.ensures w.first-is
    ] in
    let half-second : Half g.tree.now.bytes.now g.tree.now.levels (g.j + 1) c.halve-two.result.one c.if-one.second =
    elim c.if-one.branch [
      | then-one w ↦ half_empty g.tree.now.bytes.now g.tree.now.levels (g.j + 1) c.halve-two.result.one c.if-one.second w.if-one.true w.second-is
      | else-one w ↦ half_same g.tree.now.bytes.now g.tree.now.levels (g.j + 1) c.halve-two.result.one c.if-one.second w.node_word-second.result w.node_word-second.ensures w.second-is
    ] in
    word_node (level_of g.tree.now.bytes.now g.tree.now.levels) g.tree.now.levels.height g.j n (omega (arith, c.requires.j_le_height.0, c.if-j-height.false)) two.result c.if-zero.first c.if-one.second
    (1 * 2 ^ (g.tree.now.levels.height - g.j - 1) % 2 ^ 64) c.beside.result two.ensures.0 half-first.0 half-second.0
    (shl_one_word (g.tree.now.levels.height - g.j - 1) (omega (arith, c.requires.j_le_height.1))) c.beside.ensures
