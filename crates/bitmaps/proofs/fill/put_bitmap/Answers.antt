use Prim.Native.Nat.{◌-◌, ◌*◌, ◌%◌, ◌^◌}
use native.Mathlib.Omega.{arith}
use mathlib.Core.Path.{◌≡◌, ap, ◌∙◌}
use lib.Seq.{sets}
use Rattle.model.specs.Opening.{contents}
use Rattle.wavelet.specs.declared.Levels.{Levels}
use Rattle.archive_ranges.proofs.TermEnds.{term_order}
use Rattle.bitmaps.specs.Words.{block_height}
use Rattle.bitmaps.proofs.Masks.{all_blocks, all_few}
use Rattle.bitmaps.proofs.Terms.{words_term}
use Rattle.bitmaps.proofs.fill.put_bitmap.Goals as goal

pub put_blocks-requires : goal.put_blocks-requires
put_blocks-requires c =
    let g = c.args in
    let a = c.term_start in
    let b = c.term_start-2 in
    let tree = c.tree-tree.result in
    let blocks : 1 * 2 ^ c.saturating_sub.result % 2 ^ 64 ≡ 2 ^ (tree.levels.height - block_height tree.levels.height - 0)
    = rw c.saturating_sub.ensures (all_blocks tree.levels.height tree.stored.low) in
    let order = term_order (contents g.archive.now.bytes.now) g.term a.result b.result a.ensures.0 b.ensures.0 in record {
      height_bound = (
        omega arith,
        blocks,
        record { from = omega arith; range = order; to = omega (arith, b.ensures.1, ap (λ (l : Levels). l.entries) c.tree-tree.ensures.1); inside = omega arith },
        omega (arith, c.requires.term_lt_terms.1, all_few tree.levels.height _ tree.stored.low blocks),
      );
    }

pub returns : goal.returns
returns c =
    let g = c.args in
    let a = c.term_start in
    let b = c.term_start-2 in
    rw (c.tree-tree.ensures.0, c.tree-tree.ensures.1) at c.put_blocks.ensures
    ∙ ap (sets g.masks.now g.place)
    (words_term g.archive.now.bytes.now g.archive.now.layout g.archive.now.opened g.term a.result b.result a.ensures.0 b.ensures.0 b.ensures.1)
