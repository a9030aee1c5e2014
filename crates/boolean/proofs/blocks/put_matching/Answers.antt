-- `put_matching` meets its contract: each turn of the loop is a law of Matched.
use Rattle.std.proofs.Common.{ℕ, ap, ◌∙◌, arith, ◌*◌, ◌^◌, refl, min}
use Rattle.model.specs.Reading.{reading}
use Rattle.matching.specs.Sets.{set_at}
use Rattle.bitmaps.specs.Words.{block_height}
use Rattle.boolean.specs.Blocks.{set_by}
use Rattle.boolean.proofs.Matched.{coming_first, coming_at, coming_length, coming_room, coming_turn, coming_last, block_lt, blocks_few, blocks_most, documents_few, block_starts, blocks_end}
use Rattle.boolean.proofs.Readable.{read_some}
use Rattle.boolean.proofs.blocks.put_matching.Goals as goal

pub loop-block-init : goal.loop-block-init
loop-block-init c =
    let g = c.args in
    let h = g.l.levels.height in
    λ e r. coming_at g.masks.now e h g.l.documents g.answers.now (coming_first g.masks.now e h g.l.documents g.answers.now) (min (2 ^ block_height h * 0) g.l.documents) (omega arith)

pub set_of-set-requires-clause-terms_in_bounds : goal.set_of-set-requires-clause-terms_in_bounds
set_of-set-requires-clause-terms_in_bounds c =
    let l = c.args.l in
    let h = l.levels.height in
    let k = c.loop-block in
    let start = block_starts h l.documents k.block c.block_size-size.result c.div_ceil-block-end.result c.block_size-size.ensures c.div_ceil-block-end.ensures c.loop-block-test.true in
    let few = block_lt h l.documents k.block (2 ^ block_height h * k.block) c.requires.height_bound.1 start refl in
    (c.requires.terms_in_bounds.0, c.requires.terms_in_bounds.1, omega (arith, few, blocks_few h c.requires.height_bound.0), c.requires.terms_in_bounds.2)

pub put_documents-found-requires : goal.put_documents-found-requires
put_documents-found-requires c =
    let g = c.args in
    let h = g.l.levels.height in
    let k = c.loop-block in
    let size = c.block_size-size.ensures in
    let start = block_starts h g.l.documents k.block c.block_size-size.result c.div_ceil-block-end.result size c.div_ceil-block-end.ensures c.loop-block-test.true in
    let x = read_some (reading g.question.now) c.requires.question_value in
    let o = coming_at g.masks.now x.0 h g.l.documents g.answers.now (k.invariant x.0 x.1) (2 ^ block_height h * k.block) (omega (arith, start)) in
    let most = blocks_most h c.requires.height_bound.0 in
    let first = ap (λ (s : ℕ). s * k.block) size in
    let n = c.min-some.ensures in (
      omega (arith, n, size, most),
      omega (arith, n, size, most, first, start, c.requires.height_bound.1, documents_few h c.requires.height_bound.0),
      omega (arith, n, first, start, coming_room g.masks.now x.0 h g.l.documents g.answers.now o, coming_length g.masks.now x.0 h g.l.documents g.answers.now o, c.requires.height_bound.2),
    )

pub loop-block-preserved : goal.loop-block-preserved
loop-block-preserved c =
    let g = c.args in
    let h = g.l.levels.height in
    let k = c.loop-block in
    let size = c.block_size-size.ensures in
    let start = block_starts h g.l.documents k.block c.block_size-size.result c.div_ceil-block-end.result size c.div_ceil-block-end.ensures c.loop-block-test.true in
    let p = c.put_documents-found in
    λ e r.
    let is = c.set_of-set.ensures ∙ ap (set_by (set_at g.masks.now k.block)) r in
    coming_turn g.masks.now e h g.l.documents g.answers.now c.block_size-size.result k.block k.found c.min-some.result p.result k.answers p.new.answers size start
    (k.invariant e r) c.min-some.ensures (rw (← is) p.ensures.0) (rw (← is) p.ensures.1)

pub returns : goal.returns
returns c =
    let g = c.args in
    let h = g.l.levels.height in
    let k = c.loop-block in
    let x = read_some (reading g.question.now) c.requires.question_value in
    let end = blocks_end h g.l.documents k.block c.block_size-size.result c.div_ceil-block-end.result c.block_size-size.ensures c.div_ceil-block-end.ensures c.loop-block-test.false in
    rw x.1 (coming_last g.masks.now x.0 h g.l.documents g.answers.now (k.invariant x.0 x.1) (omega (arith, end)))
