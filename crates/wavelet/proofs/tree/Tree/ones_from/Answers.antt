use native.Mathlib.Omega.{arith}
use Rattle.model.proofs.Wavelet.Counts.{ones_mono}
use Rattle.wavelet.specs.Levels.{level_of}
use Rattle.wavelet.proofs.tree.Tree.ones_from.Goals as goal

pub returns : goal.returns
returns c =
    let a = c.args in
    grind (arith, ones_mono (level_of a.self.now.bytes.now a.self.now.levels a.j) a.x a.y c.requires.j_lt_height.1)
