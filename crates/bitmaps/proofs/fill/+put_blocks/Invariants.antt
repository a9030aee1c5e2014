use Prim.Native.Nat.{◌-◌}
use Rattle.bitmaps.proofs.fill.+put_blocks.Given as goal

abbrev pub decreases-put_blocks : goal.decreases-put_blocks
decreases-put_blocks l = l.tree.now.levels.height - l.j
