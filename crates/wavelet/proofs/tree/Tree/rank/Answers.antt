use native.Mathlib.Nat.{le_refl}
use native.Mathlib.Omega.{arith}
use mathlib.Core.Path.{◌∙◌}
use Rattle.wavelet.proofs.Descents.{toward_root, rank_leaf}
use Rattle.wavelet.proofs.tree.Tree.rank.Goals as goal

pub count_under-requires : goal.count_under-requires
count_under-requires c =
    record {
      j_le_k = (omega arith, le_refl c.args.self.now.levels.height, c.requires.d_bound.0, record { from = omega arith; range = omega arith; to = c.requires.d_bound.1; inside = omega arith });
    }

pub returns : goal.returns
returns c =
    let g = c.args in
    c.count_under.ensures g.i c.requires.d_bound.1 (toward_root g.self.now.bytes.now g.self.now.levels g.i g.i g.d (le_refl g.i) c.requires.d_bound.1 c.requires.d_bound.0)
    ∙ rank_leaf g.self.now.bytes.now g.self.now.levels g.d g.i
