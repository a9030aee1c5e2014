use Prim.Native.Nat.{◌-◌}
use Rattle.wavelet_select.proofs.ascent.+offset_of.Given as goal

abbrev pub decreases-offset_of : goal.decreases-offset_of
decreases-offset_of l = l.tree.now.levels.height - l.j
