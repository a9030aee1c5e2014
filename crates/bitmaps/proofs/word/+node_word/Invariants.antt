use Prim.Native.Nat.{◌-◌}
use Rattle.bitmaps.proofs.word.+node_word.Given as goal

abbrev pub decreases-node_word : goal.decreases-node_word
decreases-node_word l = l.tree.now.levels.height - l.j
