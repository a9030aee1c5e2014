use Prim.Native.Nat.{◌-◌}
use Rattle.wavelet_select.proofs.first.+offset_in.Given as goal

abbrev pub decreases-offset_in : goal.decreases-offset_in
decreases-offset_in l = l.tree.now.levels.height - l.j
