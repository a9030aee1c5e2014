-- `put_bitmaps` meets its contract: each turn of the loop is a law of Filling.
use Rattle.model.specs.Opening.{contents}
use Rattle.boolean.specs.Blocks.{Filled}
use Rattle.boolean.proofs.blocks.put_bitmaps.Given as goal

abbrev pub invariant-loop-i : goal.invariant-loop-i
invariant-loop-i l = Filled (contents l.archive.bytes.now) l.archive.layout.levels.height l.terms l.i l.masks
