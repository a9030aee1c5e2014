use mathlib.Core.Path.{◌∙◌}
use Rattle.wavelet.proofs.Ranges.{leaf_root}
use Rattle.wavelet.proofs.tree.Tree.quantile.Goals as goal

pub returns : goal.returns
returns c =
    let g = c.args in
    c.leaf_of.ensures ∙ leaf_root g.self.now.bytes.now g.self.now.levels g.a g.b g.r c.requires.a_le_b.0 c.requires.a_le_b.1 c.requires.a_le_b.2
