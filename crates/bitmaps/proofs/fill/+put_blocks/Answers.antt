use Prim.Native.Nat.{◌+◌, ◌-◌, ◌/◌, ◌^◌}
use native.Mathlib.Omega.{arith}
use mathlib.Core.Path.{◌≡◌, ap, sym, ◌∙◌}
use lib.ListN.{replicate}
use lib.Seq.{sets}
use Rattle.wavelet.specs.Levels.{level_of}
use Rattle.wavelet.specs.Spans.{span}
use Rattle.bitmaps.specs.Words.{block_height, words_from}
use Rattle.bitmaps.proofs.Masks.{one_block, more_blocks, block_six, words-empty, words_block, stored_halves}
use Rattle.bitmaps.proofs.fill.+put_blocks.Goals as goal

pub returns-then-s : goal.returns-then-s
returns-then-s t c =
    let g = c.args in
    c.clear.ensures
    ∙ ap (sets g.masks.now g.place)
    (ap (λ b. replicate b 0) c.requires.height_bound.1 ∙ sym (words-empty (level_of g.tree.now.bytes.now g.tree.now.levels) (block_height g.tree.now.levels.height) (g.tree.now.levels.height - block_height g.tree.now.levels.height - g.j) g.j g.s c.if-s.true))

pub node_word-requires : goal.node_word-requires
node_word-requires t c =
    let g = c.args in
    let one = one_block (g.tree.now.levels.height - block_height g.tree.now.levels.height - g.j) g.blocks c.requires.height_bound.1 c.if-blocks-eq1.true in record {
      j_le_height = (omega (arith, c.requires.height_bound.0), omega (arith, c.requires.height_bound.0), omega (arith, c.requires.height_bound.2.range, c.if-s.false), c.requires.height_bound.2);
    }

pub bounds-masks-place : goal.bounds-masks-place
bounds-masks-place t c =
    let g = c.args in
    omega (arith, c.requires.height_bound.3, c.if-blocks-eq1.true)

pub returns-then-blocks-eq1 : goal.returns-then-blocks-eq1
returns-then-blocks-eq1 t c =
    let g = c.args in
    let one = one_block (g.tree.now.levels.height - block_height g.tree.now.levels.height - g.j) g.blocks c.requires.height_bound.1 c.if-blocks-eq1.true in
    ap (sets g.masks.now g.place) (words_block (level_of g.tree.now.bytes.now g.tree.now.levels) (block_height g.tree.now.levels.height) g.tree.now.levels.height g.j g.s c.requires.height_bound.0 one c.node_word.result c.node_word.ensures.0)

pub put_alone-requires : goal.put_alone-requires
put_alone-requires t c =
    let g = c.args in
    let x = more_blocks g.tree.now.levels.height (block_height g.tree.now.levels.height) g.j g.blocks c.requires.height_bound.0 c.requires.height_bound.1 c.if-blocks-eq1.false in
    let k = block_six g.tree.now.levels.height g.j x.above in
    let o = c.requires.height_bound.2 in record {
      j_bound = (
        omega (arith, x.above, k),
        c.requires.height_bound.1 ∙ ap (λ k. 2 ^ (g.tree.now.levels.height - k - g.j)) k,
        record { from = o.from; range = omega arith; to = omega (arith, o.to, c.if-s-2.true); inside = o.inside },
        c.requires.height_bound.3,
      );
    }

pub returns-then-s-2 : goal.returns-then-s-2
returns-then-s-2 t c =
    let g = c.args in
    let x = more_blocks g.tree.now.levels.height (block_height g.tree.now.levels.height) g.j g.blocks c.requires.height_bound.0 c.requires.height_bound.1 c.if-blocks-eq1.false in
    let k = sym (block_six g.tree.now.levels.height g.j x.above) in
    let one : g.s.lo + 1 ≡ g.s.hi = sym c.if-s-2.true in
    c.put_alone.ensures
    ∙ (λ i. sets g.masks.now g.place (words_from (level_of g.tree.now.bytes.now g.tree.now.levels) (k i) (g.tree.now.levels.height - k i - g.j) g.j (span g.s.start g.s.lo (one i) g.s.end)))

pub halve-two-requires : goal.halve-two-requires
halve-two-requires t c =
    let g = c.args in
    let x = more_blocks g.tree.now.levels.height (block_height g.tree.now.levels.height) g.j g.blocks c.requires.height_bound.0 c.requires.height_bound.1 c.if-blocks-eq1.false in record {
      j_lt_height = (omega (arith, x.above), c.requires.height_bound.2);
    }

pub put_blocks-requires : goal.put_blocks-requires
put_blocks-requires t c =
    let g = c.args in
    let x = more_blocks g.tree.now.levels.height (block_height g.tree.now.levels.height) g.j g.blocks c.requires.height_bound.0 c.requires.height_bound.1 c.if-blocks-eq1.false in (
      omega (arith, c.decreases, x.above),
      ((x.above, x.half, c.halve-two.ensures.1, omega (arith, c.requires.height_bound.3, x.both))),
    )

pub overflow_add-j-2 : goal.overflow_add-j-2
overflow_add-j-2 t c =
    omega (arith, c.requires.height_bound.0, c.args.tree.now.stored.low)

pub overflow_add-place : goal.overflow_add-place
overflow_add-place t c =
    let g = c.args in
    let x = more_blocks g.tree.now.levels.height (block_height g.tree.now.levels.height) g.j g.blocks c.requires.height_bound.0 c.requires.height_bound.1 c.if-blocks-eq1.false in
    omega (arith, c.requires.height_bound.3, x.both, c.well_formed.1.1.1.1.1.0)

pub put_blocks-requires-2 : goal.put_blocks-requires-2
put_blocks-requires-2 t c =
    let g = c.args in
    let x = more_blocks g.tree.now.levels.height (block_height g.tree.now.levels.height) g.j g.blocks c.requires.height_bound.0 c.requires.height_bound.1 c.if-blocks-eq1.false in
    let k = c.put_blocks in (
      omega (arith, c.decreases, x.above),
      ((x.above, x.half, c.halve-two.ensures.2, omega (arith, c.requires.height_bound.3, x.both, k.auto.masks))),
    )

pub returns : goal.returns
returns t c =
    let g = c.args in
    let x = more_blocks g.tree.now.levels.height (block_height g.tree.now.levels.height) g.j g.blocks c.requires.height_bound.0 c.requires.height_bound.1 c.if-blocks-eq1.false in
    let two = c.halve-two in
    let first = c.put_blocks in
    let second = c.put_blocks-2 in
    stored_halves (level_of g.tree.now.bytes.now g.tree.now.levels) (block_height g.tree.now.levels.height) g.tree.now.levels.height g.j g.s c.requires.height_bound.0 two.result two.ensures.0 x.deeper g.place (g.blocks / 2) g.masks.now
    first.new.masks second.new.masks x.half first.ensures second.ensures
