-- `put_bitmaps` meets its contract: each turn of the loop is a law of Filling.
use Rattle.std.proofs.Common.{arith}
use Rattle.model.specs.Opening.{contents}
use Rattle.archive.proofs.Opened.{stored}
use Rattle.boolean.proofs.Filling.{filled_none, filled_next}
use Rattle.boolean.proofs.blocks.put_bitmaps.Goals as goal

pub loop-i-init : goal.loop-i-init
loop-i-init c =
    let a = c.args.archive.now in
    filled_none (contents a.bytes.now) a.layout.levels.height (stored a.bytes.now a.layout a.opened).low c.args.terms.now c.args.masks.now

pub loop-i-preserved : goal.loop-i-preserved
loop-i-preserved c =
    let a = c.args.archive.now in
    let k = c.loop-i in
    filled_next (contents a.bytes.now) a.layout.levels.height (stored a.bytes.now a.layout a.opened).low c.args.terms.now k.i k.masks c.put_bitmap.new.masks
    (omega (arith, c.requires.few.1)) (omega (arith, c.requires.few.0)) k.invariant c.put_bitmap.ensures
