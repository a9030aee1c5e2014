use mathlib.Core.Path.{refl, sym, ap, ◌∙◌}
use Rattle.bits.specs.Bits.{bits_of}
use Rattle.wavelet.proofs.Stored.{level_is}
use Rattle.wavelet.proofs.tree.Tree.row_at.Goals as goal

pub returns : goal.returns
returns c =
    let t = c.args.self.now.levels in
    (refl, ap (bits_of t.entries) c.bits_at.ensures ∙ sym (level_is c.args.self.now.bytes.now t c.args.j c.requires.j_lt_height))
